-- Comparing maps asks of a column only the nodes up to the roots: two columns that agree there give one answer.
use mathlib.Core.Path.{◌≡◌, refl, sym, ap, ◌∙◌}
use mathlib.Core.Bool.{Bool, true, false}
use Prim.Native.Nat.{ℕ, ◌≤◌, ◌<◌}
use native.Mathlib.Omega.{arith}
use Rattle.rules.specs.definitions.Maps.{Column, Reached, renamed, Isomorphic}
use Rattle.rules.specs.definitions.Comparing.{isomorphic}
use Rattle.rules.specs.definitions.Maps.Reached.{root, low, high}
use Rattle.rules.specs.statements.Sound.{Sound}
use Rattle.theory.specs.laws.Maps.{reached_le, reached_same}
use Rattle.theory.specs.laws.Comparing.{test_decides}

-- two tests that each give the other are one
same_test : (s t : Bool) → (s ≡ true → t ≡ true) → (t ≡ true → s ≡ true) → s ≡ t
same_test true t f g = sym (f refl)
same_test false true f g = g refl
same_test false false f g = refl

module _ (T U : Column) (n : ℕ) (same : (k : ℕ) → k ≤ n → U k ≡ T k) where
  -- what is reached in the first from a sound root is within
  agree : {r : ℕ} → r ≤ n → Sound T r → (k : ℕ) → Reached T r k → U k ≡ T k
  agree h S k g = same k (omega (arith, reached_le S.falling g))

  reached_back : {r k : ℕ} → r ≤ n → Sound T r → Reached U r k → Reached T r k
  reached_back h S root = root
  reached_back h S (low {i = i} g e) = let b = reached_back h S g in low b (sym (agree h S i b) ∙ e)
  reached_back h S (high {i = i} g e) = let b = reached_back h S g in high b (sym (agree h S i b) ∙ e)

  pub sound_there : {r : ℕ} → r ≤ n → Sound T r → Sound U r
  sound_there h S = record {
    some = λ i g. let b = reached_back h S g in λ e. S.some i b (sym (agree h S i b) ∙ e);
    falling = λ i x a b g e. let o = reached_back h S g in S.falling i x a b o (sym (agree h S i o) ∙ e);
    positive = λ i x a b g e. let o = reached_back h S g in S.positive i x a b o (sym (agree h S i o) ∙ e);
  }

  isomorphic_there : {r t : ℕ} → r ≤ n → t ≤ n → Sound T r → Sound T t → Isomorphic T r T t → Isomorphic U r U t
  isomorphic_there hr ht R S iso = record {
    to = iso.to;
    from = iso.from;
    into = λ i g. reached_same (agree ht S) (iso.into i (reached_back hr R g));
    back = λ k g. reached_same (agree hr R) (iso.back k (reached_back ht S g));
    from_to = λ i g. iso.from_to i (reached_back hr R g);
    to_from = λ k g. iso.to_from k (reached_back ht S g);
    alike = λ i g. let b = reached_back hr R g in agree ht S (iso.to i) (iso.into i b) ∙ iso.alike i b ∙ ap (renamed iso.to) (sym (agree hr R i b));
  }

-- the test's answer is the same in both columns
pub isomorphic_agree : (T U : Column) (n r t : ℕ) → ((k : ℕ) → k ≤ n → U k ≡ T k) → r ≤ n → t ≤ n → 0 < r → 0 < t
    → Sound T r → Sound T t → isomorphic U r U t ≡ isomorphic T r T t
isomorphic_agree T U n r t same hr ht pr pt R S =
    same_test _ _
    (λ e. (test_decides T r T t R S pr pt).1 (isomorphic_there U T n (λ k l. sym (same k l)) hr ht (there hr R) (there ht S) ((test_decides U r U t (there hr R) (there ht S) pr pt).0 e)))
    (λ e. (test_decides U r U t (there hr R) (there ht S) pr pt).1 (isomorphic_there T U n same hr ht R S ((test_decides T r T t R S pr pt).0 e)))
  where
    there : {r : ℕ} → r ≤ n → Sound T r → Sound U r
    there = sound_there T U n same
