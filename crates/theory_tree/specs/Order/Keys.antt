-- Keys that rise strictly: the order of a page's entries, of a level's, and of the slides.
use Rattle.std.specs.Prelude.{ℕ, suc, ◌≤◌, ◌≡◌, refl, List, [], ◌∷◌, ◌++◌}
use Rattle.std.proofs.Common.{arith}
use Rattle.def_layout.specs.declared.Entry.{Entry}
use Rattle.def_model.specs.Fit.{after}

-- Keys from `from` on, rising strictly. `from` is the least key allowed: 0 at the left end, one more than the key before after it.
unfoldable pub Rising : ℕ → List Entry → Type 0
Rising from [] = Unit {0}
Rising from (e ∷ es) = (from ≤ e.key) × Rising (suc e.key) es

pub after_append : (from : ℕ) (es fs : List Entry) → after from (es ++ fs) ≡ after (after from es) fs
unfolding after
after_append from [] fs = refl
after_append from (e ∷ es) fs = after_append (suc e.key) es fs

pub rising_append : (from : ℕ) (es fs : List Entry) → Rising from es → Rising (after from es) fs → Rising from (es ++ fs)
unfolding Rising after
rising_append from [] fs h k = k
rising_append from (e ∷ es) fs h k = (h.0, rising_append (suc e.key) es fs h.1 k)

pub rising_cut : (from : ℕ) (es fs : List Entry) → Rising from (es ++ fs) → Rising from es × Rising (after from es) fs
unfolding Rising after
rising_cut from [] fs h = (tt, h)
rising_cut from (e ∷ es) fs h = let (a, b) = rising_cut (suc e.key) es fs h.1 in ((h.0, a), b)

pub rising_weaken : (a b : ℕ) (es : List Entry) → a ≤ b → Rising b es → Rising a es
unfolding Rising
rising_weaken a b [] l h = tt
rising_weaken a b (e ∷ es) l h = let k = h.0 in (omega arith, h.1)

pub after_grows : (from : ℕ) (es : List Entry) → Rising from es → from ≤ after from es
unfolding Rising after
after_grows from [] h = omega arith
after_grows from (e ∷ es) h = let k = h.0 in let i = after_grows (suc e.key) es h.1 in omega arith

pub after_mono : (a c : ℕ) (es : List Entry) → a ≤ c → after a es ≤ after c es
unfolding after
after_mono a c [] l = l
after_mono a c (e ∷ es) l = omega arith

pub rising_mid : (f : ℕ) (pre : List Entry) (e : Entry) (post : List Entry) → Rising f (pre ++ e ∷ post) → f ≤ e.key
unfolding Rising
rising_mid f [] e post r = r.0
rising_mid f (x ∷ pre) e post r = let a = r.0 in let b = rising_mid (suc x.key) pre e post r.1 in omega arith
