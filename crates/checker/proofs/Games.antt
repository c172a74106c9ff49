-- The prefix table's words, one by one, as the variables of the prefix.
use mathlib.Core.Path.{◌≡◌, refl, sym, ap, subst, ◌∙◌}
use mathlib.Core.Bool.{Bool, true, false, ◌&&◌, ◌||◌, or_comm}
use mathlib.Core.Logic.{by_cases}
use mathlib.Core.List.{List, [], ◌∷◌, ◌++◌, map, append-nil}
use Prim.Native.Nat.{ℕ, zero, suc, ◌+◌, ◌-◌, ◌*◌, ◌≤◌, ◌<◌}
use native.Mathlib.Omega.{arith}
use native.Mathlib.Decide.{dec_lt}
use native.Mathlib.Numerals.{add-one}
use lib.Dec.{eqb}
use lib.ListN.{length, get_or, take, drop, set, replicate, length-append, length-drop, length-map, length-set, get_or-map, drop_of_length-le, get_or-append, take-append-drop}
use Rattle.std.proofs.lemmas.List.{map-set, same_from_push}
use lib.Seq.{drop-cons, take-suc, take_all, get_or-set_same, get_or-set_other, get_or-append_seam, take_at}
use borrow.Author.Tests.{eq-eqb, ne_eqb, le-leb, lt-leb}
use Rattle.rules.specs.definitions.Layout.{prefix_words, universal_mark, word_bits, set_words}
use Rattle.rules.specs.definitions.Limits.{variables_most, universals_most}
use Rattle.rules.specs.definitions.Sets.{none, has, with}
use Rattle.rules.specs.definitions.Sets.{Set as Variables}
use Rattle.theory.specs.laws.Sets.{has_with, has_none}
use Rattle.rules.specs.definitions.Formula.{Quant, Bound, Formula, bound, universals, existentials, left_of}
use Rattle.rules.specs.definitions.Formula.Quant.{exists, forall}
use Rattle.theory.specs.laws.Formula.{eqb_comm, place_bound, bound_snoc, universals_append, universals_exists, universals_forall, existentials_exists, existentials_forall, distinct_tail}
use Rattle.rules.specs.statements.Proper.{nowhere, var_at, Distinct}
use Rattle.rules.specs.definitions.Tables.{padded, holding, bound_word}
use Rattle.sets.specs.declared.Set.{Set}
use Rattle.sets.specs.Values.{set_of}
use Rattle.checker.specs.declared.game.Game.{Game}
use Rattle.checker.specs.declared.game.Universal.{Universal}
use Rattle.checker.specs.Game.{Prefixed, Narrow, with_word, variables, nobody, left_set, GameOf, BoundFirst, BoundMore, MoreExists, MoreForall}
use Rattle.theory.specs.laws.Tables.{holding_at, holding_past, padded_more}
use Rattle.rules.specs.definitions.Checking.{base, rules_of}

-- ---- left of a place of the prefix are the variables before it
pub left_taken : (Q : List Bound) → Distinct Q → (p x : ℕ) → p < length Q → left_of Q x (var_at Q p) ≡ bound (take p Q) x
unfolding left_of bound
left_taken [] d p x h = absurd (omega arith)
left_taken (q ∷ Q) d zero x h = rw (left_of, eq-eqb q.var q.var refl)
left_taken (q ∷ Q) d (suc p) x h =
    let e : eqb q.var (var_at Q p) ≡ false = ne_eqb q.var (var_at Q p) (λ same. apart (d 0 (suc p) (omega arith) h same)) in
    rw (left_of, e, place_bound Q p (omega arith)) (and_true (eqb q.var x) (left_of Q x (var_at Q p)) ∙ ap (λ (t : Bool). eqb q.var x || t) (left_taken Q (distinct_tail q Q d) p x (omega arith)))
  where
    apart : 0 ≡ suc p → ⊥
    apart e = omega arith

    and_true : (s t : Bool) → ((s && true) || t) ≡ (s || t)
    and_true true t = refl
    and_true false t = refl

-- ---- the words
-- a table that holds words holds no more than its minimum
holding_fits : (n : ℕ) (ws t : List ℕ) → n ≤ length t → t ≡ holding n ws t → length ws ≤ n
unfolding holding padded
holding_fits n ws t h e = omega (arith, ap length e, length-append (padded n ws) (drop n t), length-append ws (zeros), length-drop n t)
  where
    zeros : List ℕ
    zeros = replicate (n - length ws) 0

module _ (F : Formula) (t : List ℕ) (long : prefix_words ≤ length t) (P : Prefixed F t) where
  pub prefix_fits : length F.prefix ≤ prefix_words
  prefix_fits = omega (arith, holding_fits prefix_words (map bound_word F.prefix) t long P.words, length-map F.prefix bound_word)

  pub prefix_at : (i : ℕ) → i < length F.prefix → get_or t i 0 ≡ bound_word (get_or F.prefix i nowhere)
  prefix_at i h =
      ap (λ (l : List ℕ). get_or l i 0) P.words
      ∙ holding_at prefix_words (map bound_word F.prefix) t i (omega (arith, length-map F.prefix bound_word))
      ∙ get_or-map bound_word F.prefix i nowhere

  pub prefix_past : (i : ℕ) → length F.prefix ≤ i → i < prefix_words → get_or t i 0 ≡ 0
  prefix_past i h l = ap (λ (l : List ℕ). get_or l i 0) P.words ∙ holding_past prefix_words (map bound_word F.prefix) t i (omega (arith, length-map F.prefix bound_word)) l

  -- each variable is from 1 and within the limit
  pub var_range : (i : ℕ) → i < length F.prefix → (1 ≤ var_at F.prefix i) × (var_at F.prefix i ≤ variables_most)
  var_range i h = let r = P.proper.in_range i h in (r.0, omega (arith, P.proper.variables, r.1))

-- a word of a variable within the limit
word_narrow : (q : Bound) → 1 ≤ q.var → q.var ≤ variables_most → Narrow (bound_word q) × (1 ≤ bound_word q)
word_narrow q o m = by q.kind refl
  where
    by : (k : Quant) → q.kind ≡ k → Narrow (bound_word q) × (1 ≤ bound_word q)
    by exists e = rw e (record { low = λ h. m; high = λ h. absurd (omega arith) }, o)
    by forall e = rw e (record { low = λ h. absurd (omega arith); high = λ h. (omega arith, omega arith) }, omega arith)

pub narrow_at : (F : Formula) (t : List ℕ) → prefix_words ≤ length t → Prefixed F t → (i : ℕ) → i < prefix_words → Narrow (get_or t i 0)
narrow_at F t long P i h = by_cases (dec_lt i (length F.prefix)) inside past
  where
    inside : i < length F.prefix → Narrow (get_or t i 0)
    inside l = let r = var_range F t long P i l in rw (prefix_at F t long P i l) (word_narrow (get_or F.prefix i nowhere) r.0 r.1).0

    past : (i < length F.prefix → ⊥) → Narrow (get_or t i 0)
    past l = rw (prefix_past F t long P i (omega arith) h) (record { low = λ z. omega arith; high = λ z. absurd (omega arith) })

-- ---- the existential variables, from the last word to the first
-- by the word
pub word_none : (s : Variables) (w : ℕ) → w ≡ 0 → with_word s w ≡ s
unfolding with_word
word_none s w e = rw (with_word, eq-eqb w 0 e)

pub word_high : (s : Variables) (w : ℕ) → (w ≡ 0 → ⊥) → universal_mark ≤ w → with_word s w ≡ s
unfolding with_word
word_high s w n h = rw (with_word, ne_eqb w 0 n, le-leb universal_mark w h)

pub word_low : (s : Variables) (w : ℕ) → (w ≡ 0 → ⊥) → w < universal_mark → with_word s w ≡ with s w
unfolding with_word
word_low s w n h = rw (with_word, ne_eqb w 0 n, lt-leb universal_mark w h)

word_exists : (q : Bound) (Q : List Bound) → 1 ≤ q.var → q.var ≤ variables_most → with_word (existentials Q) (bound_word q) ≡ existentials (q ∷ Q)
word_exists q Q o m = by q.kind refl
  where
    by : (k : Quant) → q.kind ≡ k → with_word (existentials Q) (bound_word q) ≡ existentials (q ∷ Q)
    by exists e = rw (existentials_exists q Q e, bound_word, e) (word_low (existentials Q) q.var (λ z. absurd (omega arith)) (omega arith))
    by forall e = rw (existentials_forall q Q e, bound_word, e) (word_high (existentials Q) (q.var + universal_mark) (λ z. absurd (omega arith)) (omega arith))

pub existentials_from : (F : Formula) (t : List ℕ) → prefix_words ≤ length t → Prefixed F t → (i : ℕ) → i < prefix_words
    → with_word (existentials (drop (suc i) F.prefix)) (get_or t i 0) ≡ existentials (drop i F.prefix)
existentials_from F t long P i h = by_cases (dec_lt i (length F.prefix)) inside past
  where
    inside : i < length F.prefix → with_word (existentials (drop (suc i) F.prefix)) (get_or t i 0) ≡ existentials (drop i F.prefix)
    inside l =
        let r = var_range F t long P i l in
        rw (prefix_at F t long P i l, drop-cons F.prefix i nowhere l) (word_exists (get_or F.prefix i nowhere) (drop (suc i) F.prefix) r.0 r.1)

    past : (i < length F.prefix → ⊥) → with_word (existentials (drop (suc i) F.prefix)) (get_or t i 0) ≡ existentials (drop i F.prefix)
    past l =
        rw (prefix_past F t long P i (omega arith) h, drop_of_length-le F.prefix {i = i} (omega arith), drop_of_length-le F.prefix {i = suc i} (omega arith)) (word_none (existentials []) 0 refl)

-- ---- the universals, from the first word to the last
set_long : (s : Set) → word_bits * length (set_of s) ≡ variables_most
unfolding set_of
set_long s = refl

snoc_exists : (Q : List Bound) (q : Bound) → q.kind ≡ exists → universals (Q ++ (q ∷ [])) ≡ universals Q
unfolding universals
snoc_exists Q q k = universals_append Q (q ∷ []) ∙ ap (λ (l : List ℕ). universals Q ++ l) (universals_exists q [] k) ∙ append-nil (universals Q)

snoc_forall : (Q : List Bound) (q : Bound) → q.kind ≡ forall → universals (Q ++ (q ∷ [])) ≡ universals Q ++ (q.var ∷ [])
unfolding universals
snoc_forall Q q k = universals_append Q (q ∷ []) ∙ ap (λ (l : List ℕ). universals Q ++ l) (universals_forall q [] k)

universals_part : (Q : List Bound) (i : ℕ) → length (universals (take i Q)) ≤ length (universals Q)
universals_part Q i =
    let e : universals Q ≡ universals (take i Q) ++ universals (drop i Q) = ap universals (sym (take-append-drop i Q)) ∙ universals_append (take i Q) (drop i Q) in
    omega (arith, ap length e, length-append (universals (take i Q)) (universals (drop i Q)))

-- a list with one number more behind it, in a row of n places
padded_snoc : (n : ℕ) (us : List ℕ) (v k : ℕ) → k ≡ length us → length us < n → set (padded n us) k v ≡ padded n (us ++ (v ∷ []))
padded_snoc n us v k e h =
    let ws : List ℕ = us ++ (v ∷ []) in
    let l : length ws ≡ suc (length us) = length-append us (v ∷ []) ∙ omega arith in
    let m = padded_more n ws (length us) (omega arith) (omega arith) in
    rw (e) (rw (take_at us (v ∷ []) (length us) refl, get_or-append_seam us v [] 0, take_all (suc (length us)) ws (omega arith)) at m)

module _ (Q : List Bound) (d : Distinct Q) (few : length (universals Q) ≤ universals_most) (i : ℕ) (h : i < length Q) (range : (1 ≤ var_at Q i) × (var_at Q i ≤ variables_most)) (g r : Game) (B : BoundFirst Q i g) where
  abbrev q : Bound
  q = get_or Q i nowhere

  -- one more variable is bound
  bound_next : set_of r.bound ≡ with (set_of g.bound) q.var → (x : ℕ) → has (set_of r.bound) x ≡ bound (take (suc i) Q) x
  bound_next e x =
      rw (e, take-suc Q i nowhere h) (
      has_with (set_of g.bound) q.var x range.0 (omega (arith, set_long g.bound, range.1))
      ∙ rw (B.bound_set x, bound_snoc (take i Q) q x, eqb_comm x q.var) (or_comm (eqb q.var x) (bound (take i Q) x))
      )

  pub first_exists : q.kind ≡ exists → MoreExists g q.var r → BoundFirst Q (suc i) r
  first_exists k m =
      let u : universals (take (suc i) Q) ≡ universals (take i Q) = ap universals (take-suc Q i nowhere h) ∙ snoc_exists (take i Q) q k in
      record {
        universal_count = m.universal_count ∙ rw u B.universal_count;
        vars = rw (u, m.universals) B.vars;
        left = λ j x l. rw (u, m.universals) (B.left j x (rw u at l));
        places = ap length m.universals ∙ B.places;
        bound_set = bound_next m.bound_set;
      }

  pub first_forall : q.kind ≡ forall → MoreForall g q.var r → BoundFirst Q (suc i) r
  first_forall k m = record {
    universal_count = m.universal_count ∙ omega (arith, B.universal_count, long);
    vars =
        rw (u, m.universals) (
        map-set (λ (p : Universal). p.variable) g.universals g.universal_count newer
        ∙ ap (λ (l : List ℕ). set l g.universal_count q.var) B.vars
        ∙ padded_snoc universals_most us q.var g.universal_count B.universal_count (omega (arith, long, room))
        );
    left = left;
    places = ap length m.universals ∙ length-set g.universals g.universal_count newer ∙ B.places;
    bound_set = bound_next m.bound_set;
  }
    where
      us : List ℕ
      us = universals (take i Q)

      newer : Universal
      newer = record { variable = q.var; left = g.bound }

      u : universals (take (suc i) Q) ≡ us ++ (q.var ∷ [])
      u = ap universals (take-suc Q i nowhere h) ∙ snoc_forall (take i Q) q k

      long : length (universals (take (suc i) Q)) ≡ suc (length us)
      long = ap length u ∙ length-append us (q.var ∷ []) ∙ omega arith

      room : length (universals (take (suc i) Q)) ≤ universals_most
      room = omega (arith, universals_part Q (suc i), few)

      earlier : (j x : ℕ) → j < length us → has (left_set r j) x ≡ left_of Q x (get_or (universals (take (suc i) Q)) j 0)
      earlier j x l =
          rw (u, m.universals, get_or-set_other g.universals g.universal_count j newer nobody (λ e. absurd (omega (arith, B.universal_count))), get_or-append us (q.var ∷ []) 0 j l) (B.left j x l)

      newest : (x : ℕ) → has (left_set r (length us)) x ≡ left_of Q x (get_or (universals (take (suc i) Q)) (length us) 0)
      newest x =
          rw (u, m.universals, ← B.universal_count, get_or-set_same g.universals g.universal_count newer nobody (omega (arith, B.universal_count, B.places, long, room)), B.universal_count, get_or-append_seam us q.var [] 0)
          (B.bound_set x ∙ sym (left_taken Q d i x h))

      left : (j x : ℕ) → j < length (universals (take (suc i) Q)) → has (left_set r j) x ≡ left_of Q x (get_or (universals (take (suc i) Q)) j 0)
      left j x l = by_cases (dec_lt j (length us)) (earlier j x) (λ p. let e : j ≡ length us = omega (arith, long) in rw e (newest x))

-- ---- one word of the table more, and the end
module _ (F : Formula) (t : List ℕ) (long : prefix_words ≤ length t) (P : Prefixed F t) where
  -- a word that is not 0 is a variable's
  pub word_inside : (i : ℕ) → i < prefix_words → (get_or t i 0 ≡ 0 → ⊥) → i < length F.prefix
  word_inside i h n = by_cases (dec_lt i (length F.prefix)) (λ l. l) (λ l. absurd (n (prefix_past F t long P i (omega arith) h)))

  -- and one that is 0 stands behind them
  pub word_outside : (i : ℕ) → get_or t i 0 ≡ 0 → length F.prefix ≤ i
  word_outside i z = by_cases (dec_lt i (length F.prefix)) (λ l. absurd (none l)) (λ l. omega arith)
    where
      none : i < length F.prefix → ⊥
      none l =
          let r = var_range F t long P i l in
          let w = (word_narrow (get_or F.prefix i nowhere) r.0 r.1).1 in
          omega (arith, w, prefix_at F t long P i l, z)

  module _ (i : ℕ) (l : i < length F.prefix) (g : Game) (B : BoundFirst F.prefix i g) where
    abbrev at : Bound
    at = get_or F.prefix i nowhere

    -- there is room for a universal
    pub universal_room : universal_mark ≤ get_or t i 0 → g.universal_count < universals_most
    universal_room h = by at.kind refl
      where
        by : (k : Quant) → at.kind ≡ k → g.universal_count < universals_most
        by exists e =
            let r = var_range F t long P i l in
            let w : get_or t i 0 ≡ at.var = prefix_at F t long P i l ∙ rw (e, bound_word) in
            absurd (omega (arith, w, h, r.1))
        by forall e =
            let u : universals (take (suc i) F.prefix) ≡ universals (take i F.prefix) ++ (at.var ∷ [])
            = ap universals (take-suc F.prefix i nowhere l) ∙ snoc_forall (take i F.prefix) at e in
            omega (arith, ap length u, length-append (universals (take i F.prefix)) (at.var ∷ []), universals_part F.prefix (suc i), P.proper.universals, B.universal_count)

    first_more : (r : Game) → BoundMore g (get_or t i 0) r → BoundFirst F.prefix (suc i) r
    first_more r M = by at.kind refl
      where
        range : (1 ≤ var_at F.prefix i) × (var_at F.prefix i ≤ variables_most)
        range = var_range F t long P i l

        by : (k : Quant) → at.kind ≡ k → BoundFirst F.prefix (suc i) r
        by exists e =
            let w : get_or t i 0 ≡ at.var = prefix_at F t long P i l ∙ rw (e, bound_word) in
            first_exists F.prefix P.proper.distinct P.proper.universals i l range g r B e
            (subst (λ (v : ℕ). MoreExists g v r) w (M.low (omega (arith, w, range.1))))
        by forall e =
            let w : get_or t i 0 ≡ at.var + universal_mark = prefix_at F t long P i l ∙ rw (e, bound_word) in
            let v : get_or t i 0 - universal_mark ≡ at.var = omega arith in
            first_forall F.prefix P.proper.distinct P.proper.universals i l range g r B e
            (subst (λ (v : ℕ). MoreForall g v r) v (M.high (omega (arith, w))))

pub first_next : (F : Formula) (t : List ℕ) → prefix_words ≤ length t → Prefixed F t → (i : ℕ) → i < length F.prefix → (g r : Game) → BoundFirst F.prefix i g
    → BoundMore g (get_or t i 0) r → BoundFirst F.prefix (i + 1) r
first_next F t long P i l g r B M = rw (add-one i) (first_more F t long P i l g B r M)

-- all variables bound: the game
pub game_whole : (F : Formula) (i : ℕ) (g : Game) → length F.prefix ≤ i → g.count ≡ length F.matrix → set_of g.existentials ≡ existentials F.prefix
    → BoundFirst F.prefix i g → (s : List ℕ) → GameOf (rules_of base F s) F g
game_whole F i g h n e B s =
    let t : take i F.prefix ≡ F.prefix = take_all i F.prefix h in
    record {
      decodes = refl;
      third_ground = refl;
      count = n;
      universal_count = rw t at B.universal_count;
      existential_set = e;
      vars = rw t at B.vars;
      left = λ j x l. let k : j < length (universals (take i F.prefix)) = rw t l in rw t at (B.left j x k);
    }

-- with none bound
pub none_bound : (Q : List Bound) (g : Game) → g.universal_count ≡ 0 → variables g.universals ≡ replicate universals_most 0 → length g.universals ≡ universals_most → set_of g.bound ≡ none set_words → BoundFirst Q 0 g
unfolding universals bound padded
none_bound Q g u v l b = record { universal_count = u; vars = v; left = λ j x h. absurd (omega arith); places = l; bound_set = λ x. rw b (has_none set_words x) }

-- ---- the turns of the loop over the words from the last
pub existentials_end : (F : Formula) (t : List ℕ) → prefix_words ≤ length t → Prefixed F t → existentials (drop prefix_words F.prefix) ≡ none set_words
unfolding existentials
existentials_end F t long P = rw (drop_of_length-le F.prefix {i = prefix_words} (prefix_fits F t long P))

-- a turn takes the last of the words still to come, which are the first of the table
pub last_taken : (t ws more : List ℕ) (w : ℕ) → prefix_words ≤ length t → length ws ≤ prefix_words → ws ≡ take (length ws) t → ws ≡ more ++ (w ∷ [])
    → (length ws ≡ suc (length more)) × (more ≡ take (length more) t) × (w ≡ get_or t (length more) 0)
last_taken t ws more w long few first e =
    let n : length ws ≡ suc (length more) = ap length e ∙ length-append more (w ∷ []) ∙ omega arith in
    let z = same_from_push more (take (length more) t) w (get_or t (length more) 0)
    (sym e ∙ first ∙ ap (λ (k : ℕ). take k t) n ∙ take-suc t (length more) 0 (omega arith)) in
    (n, z.0, z.1)
