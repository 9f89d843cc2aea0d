-- `is_zero`: byte after byte.
use Rattle.std.proofs.Common.{◌≡◌, refl, subst, length, rules}
use Rattle.std.proofs.lemmas.Fn.{fold_over, slice_gives, fronts}
use Rattle.def_layout.specs.Numbers.{same_bytes, zeros}
use Rattle.codec_bytes.proofs.Bytes.{clear_next}
use Rattle.codec_bytes.proofs.is_zero.Goals as goal

pub returns : goal.returns
unfolding same_bytes
returns c = subst (λ l. c.fold.result ≡ same_bytes (zeros (length l)) l) c.iter.ensures.rest
    (fold_over fronts (λ y. y.now) _ (λ ys b. b ≡ same_bytes (zeros (length ys)) ys) _ (λ ys a x b f' j k. let next = clear_next ys x.now in search rules)
    _ _ _ _ (slice_gives c.iter.result) refl c.fold.ensures.ran)
