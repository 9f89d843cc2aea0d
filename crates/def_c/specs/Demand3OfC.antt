-- DEMAND 3 OVER THE C FUNCTIONS, as one type: what def_recovery/Demand3 says of the calls, said of what C lends, gets and keeps in bytes.
use Rattle.std.specs.Prelude.{ℕ, ◌≡◌, true, List, [], ◌∷◌, ◌++◌, length}
use Rattle.def_layout.specs.Sizes.{desk_size}
use Rattle.def_model.specs.OnBytes.{Start, start, Lent, lengths_ok}
use Rattle.def_model.specs.CallNames.{restart, commit}
use Rattle.def_recovery.specs.Events.{result, of_32_bits}
use Rattle.def_recovery.specs.Demand3.{commit_stored, Recovers}
use Rattle.def_c.specs.FromC.{values_size, answered, c_call}
use Rattle.def_c.specs.EventsOfC.{CWorld, as_world, CEvent, ended, returns_0, c_happen_all, CAllAllowed, c_started}

-- "a further restart": any desk and values of right lengths will do. It returns and leaves what demand 3's own does, in bytes.
abbrev pub RestartsAlike : CWorld → Type 0
RestartsAlike w =
    (desk values : List ℕ) → length desk ≡ desk_size → length values ≡ values_size
    → c_call restart w.lent desk values ≡ answered (result restart (as_world w)) w.lent

-- "A case whose commit was reported": donzhikar_commit returned 0.
abbrev pub CReportedIsStored : List CEvent → CWorld → Type 0
CReportedIsStored es w =
    (before later : List CEvent) (n : ℕ) (values : List ℕ) → es ≡ before ++ ended (commit n) values ∷ later → returns_0 (commit n) values (c_happen_all before w) ≡ true
    → commit_stored n (as_world (c_happen_all es w)) ≡ true

-- All that demand 3 says of a further restart (Recovers, after which no more happens), of the world that the C calls left.
pub record CRecovers (es : List CEvent) (w : CWorld) : Type 0 where
  pub alike : RestartsAlike (c_happen_all es w)
  pub recovers : Recovers [] (as_world (c_happen_all es w))
  pub reported : lengths_ok (c_happen_all es w).lent ≡ true → CReportedIsStored es w

-- For any list of calls, cuts and growth since the last formatting or loading that returned 0.
unfoldable pub CDemand3 : Type 0
CDemand3 =
    (s : Start) (l : Lent) (desk values : List ℕ) → of_32_bits (start s) ≡ true → (c_call (start s) l desk values).reason ≡ 0
    → (es : List CEvent) → CAllAllowed es (c_started s l desk values) → CRecovers es (c_started s l desk values)
