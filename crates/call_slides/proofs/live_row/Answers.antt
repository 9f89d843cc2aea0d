-- `live_row`: there is no row, it has its mark, or it is live.
use Rattle.std.proofs.Common.{◌≡◌, ◌<◌, ℕ, get_or, false, true, subst, inl, inr}
use Rattle.call_slides.proofs.live_row.Goals as goal

pub returns-in_err-i : goal.returns-in_err-i
returns-in_err-i c = rw c.from_residual.ensures (inl c.in_err-i.ensures)

pub returns-then-marked-i : goal.returns-then-marked-i
returns-then-marked-i c =
    let o = c.in_ok-i.ensures in
    inr (subst (λ (j : ℕ). j < 8) o.0 o.1, subst (λ (j : ℕ). get_or c.args.marked j false ≡ true) o.0 c.if-marked-i.true)

pub returns : goal.returns
returns c = let o = c.in_ok-i.ensures in record { low = o.1; place = o.0; free = c.if-marked-i.false }
