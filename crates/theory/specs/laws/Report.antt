-- What is printed of a map: its nodes are those reached from its root, each once, falling; and it asks only the nodes up to the root.
use Rattle.std.specs.Prelude.{◌≡◌, refl, Bool, true, false, ◌||◌, ◌⊎◌, ◌↔◌, ℕ, zero, suc, ◌≤◌, ◌<◌}
use Rattle.std.proofs.Common.{sym, ◌∙◌, ap, inl, inr, arith, eq-eqb, eqb-true}
use Rattle.std.proofs.Math.Path.{subst}
use mathlib.Core.List.Memᴰ
use mathlib.Core.List.{List, [], ◌∷◌, ◌++◌, Memᴰ}
use Rattle.std.proofs.Math.Logic.{by_cases}
use Rattle.std.proofs.Math.Decide.{ℕ_discrete}
use Rattle.std.proofs.Math.Dec.{eqb}
use Rattle.rules.specs.declared.Node.{Node}
use Rattle.rules.specs.declared.Node.TheVariants.{None, Leaf, Branch}
use Rattle.rules.specs.definitions.Maps.{Column, Reached}
use Rattle.rules.specs.definitions.Maps.Reached.{root, low, high}
use Rattle.rules.specs.statements.Sound.{Sound}
use Rattle.rules.specs.definitions.Report.{mark_ends, reached_from, nodes_falling, decimal, node_text, line, node_line, joined, map_lines}
use Rattle.rules.specs.definitions.Bytes.{text}

-- ---- marks
-- what was marked stays marked, and a branch's ends are
marks_kept : (n : Node) (m : ℕ → Bool) (k : ℕ) → m k ≡ true → mark_ends n m k ≡ true
marks_kept None m k e = e
marks_kept (Leaf v) m k e = e
marks_kept (Branch x a b) m k e = by (eqb k a) (eqb k b) (m k) e
  where
    by : (p q s : Bool) → s ≡ true → (p || (q || s)) ≡ true
    by true q s f = refl
    by false true s f = refl
    by false false s f = f

low_marked : (n : Node) (x a b : ℕ) (m : ℕ → Bool) → n ≡ Branch x a b → mark_ends n m a ≡ true
low_marked n x a b m e = ap (λ (j : Node). mark_ends j m a) e ∙ ap (λ (p : Bool). p || (eqb a b || m a)) (eq-eqb a a refl)

high_marked : (n : Node) (x a b : ℕ) (m : ℕ → Bool) → n ≡ Branch x a b → mark_ends n m b ≡ true
high_marked n x a b m e =
    ap (λ (j : Node). mark_ends j m b) e ∙ ap (λ (p : Bool). eqb b a || (p || m b)) (eq-eqb b b refl) ∙ by (eqb b a)
  where
    by : (p : Bool) → (p || true) ≡ true
    by true = refl
    by false = refl

-- what is marked is reached, also with the ends of a reached node
MarksReached : Column → ℕ → (ℕ → Bool) → Type 0
MarksReached T r m = (k : ℕ) → m k ≡ true → Reached T r k

ends_reached : (T : Column) (r i : ℕ) (m : ℕ → Bool) → Reached T r i → MarksReached T r m → MarksReached T r (mark_ends (T i) m)
unfolding MarksReached
ends_reached T r i m g h = by (T i) refl
  where
    by : (n : Node) → T i ≡ n → (k : ℕ) → mark_ends n m k ≡ true → Reached T r k
    by None e k t = h k t
    by (Leaf v) e k t = h k t
    by (Branch x a b) e k t = cases (eqb k a) refl (eqb k b) refl t
      where
        cases : (p : Bool) → eqb k a ≡ p → (q : Bool) → eqb k b ≡ q → (p || (q || m k)) ≡ true → Reached T r k
        cases true f q g' t' = subst (Reached T r) (sym (eqb-true k a f)) (low g e)
        cases false f true g' t' = subst (Reached T r) (sym (eqb-true k b g')) (high g e)
        cases false f false g' t' = h k t'

-- ---- members
-- every node listed is reached
listed_reached : (T : Column) (r i : ℕ) (m : ℕ → Bool) → MarksReached T r m → (k : ℕ) → Memᴰ k (reached_from T i m) → Reached T r k
unfolding reached_from MarksReached
listed_reached T r zero m h k g = absurd (Memᴰ.not-nil g)
listed_reached T r (suc i) m h k g = by (m (suc i)) refl g (λ m' h' g'. listed_reached T r i m' h' k g')
  where
    by : (b : Bool) → m (suc i) ≡ b → Memᴰ k (elim b [ true ↦ suc i ∷ reached_from T i (mark_ends (T (suc i)) m) | false ↦ reached_from T i m ])
        → ((m' : ℕ → Bool) → ((j : ℕ) → m' j ≡ true → Reached T r j) → Memᴰ k (reached_from T i m') → Reached T r k) → Reached T r k
    by true e g' ih = cases (Memᴰ.cases_cons g')
      where
        here : Reached T r (suc i)
        here = h (suc i) e

        cases : (k ≡ suc i) ⊎ Memᴰ k (reached_from T i (mark_ends (T (suc i)) m)) → Reached T r k
        cases (inl p) = subst (Reached T r) (sym p) here
        cases (inr p) = ih (mark_ends (T (suc i)) m) (ends_reached T r (suc i) m here h) p
    by false e g' ih = ih m h g'

-- a marked node is listed
marked_listed : (T : Column) (i : ℕ) (m : ℕ → Bool) (k : ℕ) → m k ≡ true → 0 < k → k ≤ i → Memᴰ k (reached_from T i m)
unfolding reached_from
marked_listed T zero m k e p l = absurd (omega arith)
marked_listed T (suc i) m k e p l = by (m (suc i)) refl (λ m' e' l'. marked_listed T i m' k e' p l')
  where
    by : (b : Bool) → m (suc i) ≡ b → ((m' : ℕ → Bool) → m' k ≡ true → k ≤ i → Memᴰ k (reached_from T i m'))
        → Memᴰ k (elim b [ true ↦ suc i ∷ reached_from T i (mark_ends (T (suc i)) m) | false ↦ reached_from T i m ])
    by true f ih =
        by_cases (ℕ_discrete k (suc i)) (λ q. Memᴰ.head q) (λ q. Memᴰ.tail (ih (mark_ends (T (suc i)) m) (marks_kept (T (suc i)) m k e) (omega arith)))
    by false f ih = ih m e (by_cases (ℕ_discrete k (suc i)) (λ q. absurd (never q)) (λ q. omega arith))
      where
        never : k ≡ suc i → ⊥
        never q = let t : true ≡ false = sym e ∙ ap m q ∙ f in let z : ◌≡◌ {A = ℕ} 0 1 = cc in omega arith

-- the ends of a listed branch are listed, if they are from 1 and below it
ends_listed : (T : Column) (i : ℕ) (m : ℕ → Bool) (j x a b : ℕ) → Memᴰ j (reached_from T i m) → T j ≡ Branch x a b
    → (0 < a) × (0 < b) → (a < j) × (b < j) → Memᴰ a (reached_from T i m) × Memᴰ b (reached_from T i m)
unfolding reached_from
ends_listed T zero m j x a b g e p l = absurd (Memᴰ.not-nil g)
ends_listed T (suc i) m j x a b g e p l = by (m (suc i)) refl g (λ m' g'. ends_listed T i m' j x a b g' e p l)
  where
    by : (c : Bool) → m (suc i) ≡ c → Memᴰ j (elim c [ true ↦ suc i ∷ reached_from T i (mark_ends (T (suc i)) m) | false ↦ reached_from T i m ])
        → ((m' : ℕ → Bool) → Memᴰ j (reached_from T i m') → Memᴰ a (reached_from T i m') × Memᴰ b (reached_from T i m'))
        → Memᴰ a (elim c [ true ↦ suc i ∷ reached_from T i (mark_ends (T (suc i)) m) | false ↦ reached_from T i m ])
        × Memᴰ b (elim c [ true ↦ suc i ∷ reached_from T i (mark_ends (T (suc i)) m) | false ↦ reached_from T i m ])
    by true f g' ih = cases (Memᴰ.cases_cons g')
      where
        cases : (j ≡ suc i) ⊎ Memᴰ j (reached_from T i (mark_ends (T (suc i)) m))
            → Memᴰ a (suc i ∷ reached_from T i (mark_ends (T (suc i)) m)) × Memᴰ b (suc i ∷ reached_from T i (mark_ends (T (suc i)) m))
        cases (inl q) =
            let t : T (suc i) ≡ Branch x a b = ap T (sym q) ∙ e in (
              Memᴰ.tail (marked_listed T i (mark_ends (T (suc i)) m) a (low_marked (T (suc i)) x a b m t) p.0 (omega arith)),
              Memᴰ.tail (marked_listed T i (mark_ends (T (suc i)) m) b (high_marked (T (suc i)) x a b m t) p.1 (omega arith)),
            )
        cases (inr q) = let r = ih (mark_ends (T (suc i)) m) q in (Memᴰ.tail r.0, Memᴰ.tail r.1)
    by false f g' ih = ih m g'

-- 01, "its nodes": the nodes listed are those reached from the root
module _ (T : Column) (r : ℕ) (sound : Sound T r) (some : 0 < r) where
  reached_listed : (k : ℕ) → Reached T r k → Memᴰ k (nodes_falling T r)
  unfolding nodes_falling
  reached_listed k root = marked_listed T r (λ j. eqb j r) r (eq-eqb r r refl) some (omega arith)
  reached_listed k (low {i} {x} {a} {b} g e) =
      (ends_listed T r (λ j. eqb j r) i x a b (reached_listed i g) e (sound.positive i x a b g e) (sound.falling i x a b g e)).0
  reached_listed k (high {i} {x} {a} {b} g e) =
      (ends_listed T r (λ j. eqb j r) i x a b (reached_listed i g) e (sound.positive i x a b g e) (sound.falling i x a b g e)).1

  pub nodes_are_reached : (k : ℕ) → Memᴰ k (nodes_falling T r) ↔ Reached T r k
  unfolding nodes_falling MarksReached
  nodes_are_reached k = (listed_reached T r r (λ j. eqb j r) (λ j e. subst (Reached T r) (sym (eqb-true j r e)) root) k, reached_listed k)

-- ---- each once, falling
-- each number is below all that stand before it
abbrev pub Descending : List ℕ → Type 0
Descending [] = Unit {0}
Descending (a ∷ l) = ((k : ℕ) → Memᴰ k l → k < a) × Descending l

listed_le : (T : Column) (i : ℕ) (m : ℕ → Bool) (k : ℕ) → Memᴰ k (reached_from T i m) → k ≤ i
unfolding reached_from
listed_le T zero m k g = absurd (Memᴰ.not-nil g)
listed_le T (suc i) m k g = by (m (suc i)) g (λ m' g'. listed_le T i m' k g')
  where
    by : (b : Bool) → Memᴰ k (elim b [ true ↦ suc i ∷ reached_from T i (mark_ends (T (suc i)) m) | false ↦ reached_from T i m ])
        → ((m' : ℕ → Bool) → Memᴰ k (reached_from T i m') → k ≤ i) → k ≤ suc i
    by true g' ih = cases (Memᴰ.cases_cons g')
      where
        cases : (k ≡ suc i) ⊎ Memᴰ k (reached_from T i (mark_ends (T (suc i)) m)) → k ≤ suc i
        cases (inl p) = omega arith
        cases (inr p) = omega (arith, ih (mark_ends (T (suc i)) m) p)
    by false g' ih = omega (arith, ih m g')

listed_falls : (T : Column) (i : ℕ) (m : ℕ → Bool) → Descending (reached_from T i m)
unfolding reached_from
listed_falls T zero m = tt
listed_falls T (suc i) m = by (m (suc i)) (λ m'. listed_falls T i m')
  where
    by : (b : Bool) → ((m' : ℕ → Bool) → Descending (reached_from T i m'))
        → Descending (elim b [ true ↦ suc i ∷ reached_from T i (mark_ends (T (suc i)) m) | false ↦ reached_from T i m ])
    by true ih = ((λ k g. omega (arith, listed_le T i (mark_ends (T (suc i)) m) k g)), ih (mark_ends (T (suc i)) m))
    by false ih = ih m

-- 01, "falling", whatever the column
pub nodes_fall : (T : Column) (r : ℕ) → Descending (nodes_falling T r)
unfolding nodes_falling
nodes_fall T r = listed_falls T r (λ k. eqb k r)

-- ---- columns that agree up to the root
lines_same : (T U : Column) (i : ℕ) (m : ℕ → Bool) → ((k : ℕ) → k ≤ i → T k ≡ U k)
    → joined (node_line T) (reached_from T i m) ≡ joined (node_line U) (reached_from U i m)
unfolding reached_from joined
lines_same T U zero m h = refl
lines_same T U (suc i) m h = by (m (suc i)) (λ m'. lines_same T U i m' (λ k l. h k (omega arith)))
  where
    e : T (suc i) ≡ U (suc i)
    e = h (suc i) (omega arith)

    by : (b : Bool) → ((m' : ℕ → Bool) → joined (node_line T) (reached_from T i m') ≡ joined (node_line U) (reached_from U i m'))
        → joined (node_line T) (elim b [ true ↦ suc i ∷ reached_from T i (mark_ends (T (suc i)) m) | false ↦ reached_from T i m ])
        ≡ joined (node_line U) (elim b [ true ↦ suc i ∷ reached_from U i (mark_ends (U (suc i)) m) | false ↦ reached_from U i m ])
    by true ih =
        ap (λ (l : List ℕ). node_line T (suc i) ++ l) (ih (mark_ends (T (suc i)) m))
        ∙ ap (λ (n : Node). line (decimal (suc i) ++ node_text n) ++ joined (node_line U) (reached_from U i (mark_ends n m))) e
    by false ih = ih m

pub map_lines_same : (T U : Column) (r u : ℕ) → ((k : ℕ) → k ≤ r → T k ≡ U k) → map_lines T r u ≡ map_lines U r u
unfolding map_lines nodes_falling
map_lines_same T U r u h = ap (λ (l : List ℕ). line (text "map " ++ (decimal u ++ (text " root " ++ decimal r))) ++ l) (lines_same T U r (λ k. eqb k r) h)
