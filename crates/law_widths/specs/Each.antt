-- What holds of every element of a list.
use Rattle.std.specs.Prelude.{ℕ, zero, suc, List, [], ◌∷◌, ◌++◌, get_or, take, drop}

unfoldable pub Each : {A : Type 0} → (A → Type 0) → List A → Type 0
Each P [] = Unit {0}
Each P (x ∷ xs) = P x × Each P xs

pub each_append : {A : Type 0} (P : A → Type 0) (xs ys : List A) → Each P xs → Each P ys → Each P (xs ++ ys)
unfolding Each
each_append P [] ys h k = k
each_append P (x ∷ xs) ys h k = (h.0, each_append P xs ys h.1 k)

pub each_cut : {A : Type 0} (P : A → Type 0) (xs ys : List A) → Each P (xs ++ ys) → Each P xs × Each P ys
unfolding Each
each_cut P [] ys h = (tt, h)
each_cut P (x ∷ xs) ys h = let (a, b) = each_cut P xs ys h.1 in ((h.0, a), b)

pub each_take : {A : Type 0} (P : A → Type 0) (n : ℕ) (xs : List A) → Each P xs → Each P (take n xs)
unfolding Each
each_take P zero xs h = tt
each_take P (suc n) [] h = tt
each_take P (suc n) (x ∷ xs) h = (h.0, each_take P n xs h.1)

pub each_drop : {A : Type 0} (P : A → Type 0) (n : ℕ) (xs : List A) → Each P xs → Each P (drop n xs)
unfolding Each
each_drop P zero xs h = h
each_drop P (suc n) [] h = tt
each_drop P (suc n) (x ∷ xs) h = each_drop P n xs h.1

pub each_map : {A : Type 0} (P Q : A → Type 0) → ((x : A) → P x → Q x) → (xs : List A) → Each P xs → Each Q xs
unfolding Each
each_map P Q f [] h = tt
each_map P Q f (x ∷ xs) h = (f x h.0, each_map P Q f xs h.1)

-- Place by place, where it holds of what stands beyond the end too.
pub each_at : {A : Type 0} (P : A → Type 0) (d : A) (xs : List A) → P d → Each P xs → (i : ℕ) → P (get_or xs i d)
unfolding Each
each_at P d [] z h i = z
each_at P d (x ∷ xs) z h zero = h.0
each_at P d (x ∷ xs) z h (suc i) = each_at P d xs z h.1 i

pub at_each : {A : Type 0} (P : A → Type 0) (d : A) (xs : List A) → ((i : ℕ) → P (get_or xs i d)) → Each P xs
unfolding Each
at_each P d [] f = tt
at_each P d (x ∷ xs) f = (f 0, at_each P d xs (λ i. f (suc i)))
