-- A map's nodes put by falling number: what the marks say, and what is left to put.
use mathlib.Core.Path.{◌≡◌, refl, sym, ◌∙◌, ap, fun_ext}
use mathlib.Core.List.{List, [], ◌∷◌, ◌++◌, append_assoc, append-nil}
use mathlib.Core.Bool.{Bool, true, false, ◌||◌}
use mathlib.Core.Logic.{by_cases}
use Prim.Native.Nat.{ℕ, zero, suc, ◌-◌, ◌*◌, ◌≤◌, ◌<◌}
use native.Mathlib.Omega.{arith}
use native.Mathlib.Decide.{ℕ_discrete, dec_lt}
use lib.Dec.{eqb}
use lib.ListN.{length, get_or, set, replicate, length-set, length-replicate, get_or-replicate, get_or-eq_default}
use lib.Seq.{get_or-set_same, get_or-set_other}
use borrow.Author.Tests.{eq-eqb, ne_eqb}
use Rattle.rules.specs.declared.Node.{Node}
use Rattle.rules.specs.declared.Node.TheVariants.{None, Leaf, Branch}
use Rattle.rules.specs.definitions.Maps.{Column}
use Rattle.rules.specs.statements.Sound.{InRange}
use Rattle.rules.specs.definitions.Report.{mark_ends, reached_from, nodes_falling, node_line, joined}
use Rattle.report.specs.declared.text.Out.{Out}
use Rattle.report.specs.Written.{Appended, numbered}
use Rattle.report.specs.Marks.{marks_of, with_ends}
use Rattle.report.proofs.Laws.{nothing, then, retext, wider}

-- ---- marks
-- one node more is marked
mark_one : (ms : List Bool) (a k : ℕ) → 1 ≤ a → a ≤ length ms → marks_of (set ms (a - 1) true) k ≡ (eqb k a || marks_of ms k)
mark_one ms a zero h l = ap (λ (b : Bool). b || false) (sym (ne_eqb 0 a (λ e. omega arith)))
mark_one ms a (suc k) h l = by_cases (ℕ_discrete k (a - 1)) same other
  where
    same : k ≡ a - 1 → get_or (set ms (a - 1) true) k false ≡ (eqb (suc k) a || get_or ms k false)
    same e =
        ap (λ (i : ℕ). get_or (set ms (a - 1) true) i false) e
        ∙ get_or-set_same ms (a - 1) true false (omega arith)
        ∙ ap (λ (b : Bool). b || get_or ms k false) (sym (eq-eqb (suc k) a (omega arith)))

    other : (k ≡ a - 1 → ⊥) → get_or (set ms (a - 1) true) k false ≡ (eqb (suc k) a || get_or ms k false)
    other d = get_or-set_other ms (a - 1) k true false d ∙ ap (λ (b : Bool). b || get_or ms k false) (sym (ne_eqb (suc k) a (λ e. d (omega arith))))

-- no node is marked
none_marked : (n k : ℕ) → marks_of (replicate n false) k ≡ false
none_marked n zero = refl
none_marked n (suc k) =
    by_cases (dec_lt k n) (λ h. get_or-replicate n k false false h) (λ h. get_or-eq_default (replicate n false) false (omega (arith, length-replicate {A = Bool} n false)))

or_false : (b : Bool) → (b || false) ≡ b
or_false true = refl
or_false false = refl

-- the root alone is marked
marks_begin : (r : ℕ) → 1 ≤ r → r ≤ 1024 → marks_of (set (replicate 1024 false) (r - 1) true) ≡ (λ k. eqb k r)
marks_begin r h l =
    fun_ext (λ k.
    mark_one (replicate 1024 false) r k h (omega (arith, length-replicate {A = Bool} 1024 false))
    ∙ ap (λ (b : Bool). eqb k r || b) (none_marked 1024 k)
    ∙ or_false (eqb k r))

-- a node's ends are marked besides
marks_ends : (n : Node) (ms : List Bool) → InRange n → length ms ≡ 1024 → marks_of (with_ends n ms) ≡ mark_ends n (marks_of ms)
marks_ends None ms h l = refl
marks_ends (Leaf v) ms h l = refl
marks_ends (Branch x a b) ms h l =
    fun_ext (λ k.
    mark_one (set ms (b - 1) true) a k (omega arith) (omega (arith, length-set ms (b - 1) true))
    ∙ ap (λ (p : Bool). eqb k a || p) (mark_one ms b k (omega arith) (omega arith)))

ends_length : (n : Node) (ms : List Bool) → length (with_ends n ms) ≡ length ms
ends_length None ms = refl
ends_length (Leaf v) ms = refl
ends_length (Branch x a b) ms = length-set (set ms (b - 1) true) (a - 1) true ∙ length-set ms (b - 1) true

-- ---- what is put, and what is left
-- the lines of the marked nodes from i down, with all that they reach
abbrev lines_left : Column → ℕ → List Bool → List ℕ
lines_left T i ms = joined (node_line T) (reached_from T i (marks_of ms))

-- what is put with the lines left from i down is the map's nodes
pub record Falls (T : Column) (root : ℕ) (before after : Out) (ms : List Bool) (i : ℕ) : Type 0 where
  pub done : List ℕ
  pub put : Appended (57 * (root - i)) before after done
  pub whole : done ++ lines_left T i ms ≡ joined (node_line T) (nodes_falling T root)
  pub marks : length ms ≡ 1024
  pub below : i ≤ root

pub falls_begin : (T : Column) (root : ℕ) (o : Out) → 1 ≤ root → root ≤ 1024 → Falls T root o o (set (replicate 1024 false) (root - 1) true) root
unfolding nodes_falling
falls_begin T root o h l = record {
  done = [];
  put = wider (omega arith) (nothing o);
  whole = ap (λ (m : ℕ → Bool). joined (node_line T) (reached_from T root m)) (marks_begin root h l);
  marks = length-set (replicate 1024 false) (root - 1) true ∙ length-replicate {A = Bool} 1024 false;
  below = omega arith;
}

-- the lines left at a number that is marked, and at one that is not
pick : Column → ℕ → (ℕ → Bool) → Bool → List ℕ
pick T i m b = elim b [ true ↦ suc i ∷ reached_from T i (mark_ends (T (suc i)) m) | false ↦ reached_from T i m ]

reached_pick : (T : Column) (i : ℕ) (m : ℕ → Bool) → reached_from T (suc i) m ≡ pick T i m (m (suc i))
unfolding reached_from pick
reached_pick T i m = refl

joined_cons : {A : Type 0} (f : A → List ℕ) (a : A) (l : List A) → joined f (a ∷ l) ≡ f a ++ joined f l
unfolding joined
joined_cons f a l = refl

-- a number that is not marked is passed over
pub falls_over : {T : Column} {root : ℕ} {before after : Out} {ms : List Bool} (i : ℕ) → 0 < i → Falls T root before after ms i → get_or ms (i - 1) false ≡ false
    → Falls T root before after ms (i - 1)
unfolding pick
falls_over zero p P d = absurd (omega arith)
falls_over {T} {root} {before} {after} {ms} (suc i) p P d =
    let z : suc i - 1 ≡ i = omega arith in
    let d' : get_or ms i false ≡ false = rw z at d in
    rw z (record {
      done = P.done;
      put = wider (omega (arith, P.below)) P.put;
      whole =
          ap (λ (l : List ℕ). P.done ++ joined (node_line T) l)
          (sym (reached_pick T i (marks_of ms) ∙ ap (pick T i (marks_of ms)) d'))
          ∙ P.whole;
      marks = P.marks;
      below = omega (arith, P.below);
    })

-- the line of a marked node is put, and its ends are marked
pub falls_put : {T : Column} {root : ℕ} {before mid after : Out} {ms ends : List Bool} (i : ℕ) (n : Node) → 0 < i → Falls T root before mid ms i
    → get_or ms (i - 1) false ≡ true → n ≡ T i → InRange n → Appended 57 mid after (numbered i n) → ends ≡ with_ends n ms → Falls T root before after ends (i - 1)
unfolding pick
falls_put zero n p P e f h A w = absurd (omega arith)
falls_put {T} {root} {before} {mid} {after} {ms} {ends} (suc i) n p P e f h A w =
    let z : suc i - 1 ≡ i = omega arith in
    let e' : get_or ms i false ≡ true = rw z at e in
    rw (z, w) (record {
      done = P.done ++ numbered (suc i) n;
      put = wider (omega (arith, P.below)) (then P.put A);
      whole =
          append_assoc P.done (numbered (suc i) n) (lines_left T i (with_ends n ms))
          ∙ ap (λ (x : List ℕ). P.done ++ x)
          (ap (λ (m : ℕ → Bool). numbered (suc i) n ++ joined (node_line T) (reached_from T i m)) (marks_ends n ms h P.marks)
          ∙ ap (λ (k : Node). numbered (suc i) k ++ joined (node_line T) (reached_from T i (mark_ends k (marks_of ms)))) f
          ∙ sym (joined_cons (node_line T) (suc i) (reached_from T i (mark_ends (T (suc i)) (marks_of ms))))
          ∙ ap (joined (node_line T)) (sym (reached_pick T i (marks_of ms) ∙ ap (pick T i (marks_of ms)) e')))
          ∙ P.whole;
      marks = ends_length n ms ∙ P.marks;
      below = omega (arith, P.below);
    })

-- at 0 all is put
pub falls_end : {T : Column} {root : ℕ} {before after : Out} {ms : List Bool} (i : ℕ) → i ≤ 0 → Falls T root before after ms i
    → Appended (57 * root) before after (joined (node_line T) (nodes_falling T root))
unfolding reached_from joined
falls_end zero h P = wider (omega arith) (retext (sym (append-nil P.done) ∙ P.whole) P.put)
falls_end (suc i) h P = absurd (omega arith)
