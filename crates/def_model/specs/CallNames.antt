-- Every call by its own name, whatever group it stands in: what contracts cite. (A proof by cases goes by the groups, `OnBytes: Call`.)
use Rattle.std.specs.Prelude.{ℕ, List}
use Rattle.def_model.specs.OnBytes as groups
use Rattle.def_model.specs.OnBytes.{Call, start, request, ask}

abbrev pub format : Call
format = start groups.format

abbrev pub load : (keys values : List ℕ) → Call
load ks vs = start (groups.load ks vs)

abbrev pub restart : Call
restart = groups.restart

abbrev pub begin : Call
begin = request groups.begin

abbrev pub fetch : (batch key : ℕ) → Call
fetch b k = request (ask (groups.fetch b k))

abbrev pub next : (batch key : ℕ) → Call
next b k = request (ask (groups.next b k))

abbrev pub previous : (batch key : ℕ) → Call
previous b k = request (ask (groups.previous b k))

abbrev pub insert : (batch key value : ℕ) → Call
insert b k v = request (groups.insert b k v)

abbrev pub delete : (batch key : ℕ) → Call
delete b k = request (groups.delete b k)

abbrev pub commit : (batch : ℕ) → Call
commit b = request (groups.commit b)

abbrev pub abort : (batch : ℕ) → Call
abort b = request (groups.abort b)

abbrev pub take_mark : (batch : ℕ) → Call
take_mark b = request (ask (groups.take_mark b))

abbrev pub return_to : (batch mark : ℕ) → Call
return_to b m = request (groups.return_to b m)

abbrev pub write_out : (page : ℕ) → Call
write_out p = request (groups.write_out p)
