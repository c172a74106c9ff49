-- Three tables as one value, and rows copied word by word.
use mathlib.Core.Path.{◌≡◌, refl, sym, ap, ◌∙◌}
use mathlib.Core.List.{List, [], ◌∷◌, ◌++◌}
use Prim.Native.Nat.{ℕ, ◌+◌, ◌≤◌, ◌<◌}
use native.Mathlib.Numerals.{add-one}
use lib.ListN.{length, get_or, take, set}
use lib.Seq.{take-suc, take_all, take-suc-set}
use Rattle.checker.specs.Tables.{Held}

-- three tables that are what is said of each
pub held_by : (T : Held) (lines nodes roots : List ℕ) → T.lines ≡ lines → T.nodes ≡ nodes → T.roots ≡ roots → T ≡ record { lines = lines; nodes = nodes; roots = roots }
held_by T lines nodes roots l n r = rw (l, n, r) refl

-- ---- a row copied word by word
pub copy_more : (d s : List ℕ) (i : ℕ) → i < length d → i < length s → take i d ≡ take i s → take (i + 1) (set d i (get_or s i 0)) ≡ take (i + 1) s
copy_more d s i hd hs e = rw (add-one, take-suc-set, take-suc s i 0) (ap (λ (l : List ℕ). l ++ (get_or s i 0 ∷ [])) e)

pub copy_all : (d s : List ℕ) (i : ℕ) → length d ≤ i → length s ≤ i → take i d ≡ take i s → d ≡ s
copy_all d s i hd hs e = sym (take_all i d hd) ∙ e ∙ take_all i s hs
