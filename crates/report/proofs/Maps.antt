-- The maps of the last line put one after the other: what is put, and what the words of the prefix table still name.
use mathlib.Core.Path.{◌≡◌, refl, sym, ◌∙◌, ap, subst}
use mathlib.Core.List.{List, [], ◌∷◌, ◌++◌, append_assoc, append-nil}
use Prim.Native.Nat.{ℕ, suc, ◌+◌, ◌*◌, ◌≤◌, ◌<◌}
use native.Mathlib.Numerals.{add-one}
use native.Mathlib.Omega.{arith}
use lib.ListN.{length, get_or, drop, drop_of_length-le}
use lib.Seq.{drop-cons}
use lib.Dec.{ltb}
use mathlib.Core.Bool.{Bool, true}
use mathlib.Core.Logic.{by_cases}
use native.Mathlib.Decide.{dec_lt}
use Rattle.std.specs.List.{filter, enumerate_from}
use Rattle.std.proofs.Common.{cond}
use Rattle.std.proofs.lemmas.List.Elements.{filter_passes, All-get_or}
use Rattle.std.proofs.lemmas.List.FromFn.{length-enumerate_from, get_or-enumerate_from}
use borrow.Author.Tests.{lt-ltb, le-ltb, ltb-true}
use Rattle.std.proofs.lemmas.Grind.{get_or_default_zero}
use Rattle.rules.specs.definitions.Layout.{universal_mark}
use Rattle.report.specs.declared.text.Out.{Out}
use Rattle.report.specs.Written.{Appended}
use Rattle.report.specs.Tabled.{word_map, word_maps, InTable, Ready}
use Rattle.report.proofs.Laws.{nothing, then, retext, wider}

-- a universal's word, and another's
pub maps_universal : (nodes roots : List ℕ) (n w : ℕ) (ws : List ℕ) (j : ℕ) → universal_mark < w
    → word_maps nodes roots n (w ∷ ws) j ≡ word_map nodes roots n j w ++ word_maps nodes roots n ws (suc j)
unfolding word_maps
maps_universal nodes roots n w ws j h = rw (lt-ltb universal_mark w h, word_maps)

pub maps_other : (nodes roots : List ℕ) (n w : ℕ) (ws : List ℕ) (j : ℕ) → w ≤ universal_mark → word_maps nodes roots n (w ∷ ws) j ≡ word_maps nodes roots n ws j
unfolding word_maps
maps_other nodes roots n w ws j h = rw (le-ltb universal_mark w h, word_maps)

pub ready_universal : (roots : List ℕ) (n w : ℕ) (ws : List ℕ) (j : ℕ) → universal_mark < w → Ready roots n (w ∷ ws) j ≡ (InTable roots n j × Ready roots n ws (suc j))
unfolding Ready
ready_universal roots n w ws j h = rw (lt-ltb universal_mark w h, Ready)

pub ready_other : (roots : List ℕ) (n w : ℕ) (ws : List ℕ) (j : ℕ) → w ≤ universal_mark → Ready roots n (w ∷ ws) j ≡ Ready roots n ws j
unfolding Ready
ready_other roots n w ws j h = rw (le-ltb universal_mark w h, Ready)

-- the universals among the words
abbrev pub universals : List ℕ → List ℕ
universals ws = filter (λ w. ltb universal_mark w) ws

universals_more : (w : ℕ) (ws : List ℕ) → universal_mark < w → universals (w ∷ ws) ≡ w ∷ universals ws
universals_more w ws h = ap (λ (b : Bool). cond b (w ∷ universals ws) (universals ws)) (lt-ltb universal_mark w h)

universals_other : (w : ℕ) (ws : List ℕ) → w ≤ universal_mark → universals (w ∷ ws) ≡ universals ws
universals_other w ws h = ap (λ (b : Bool). cond b (w ∷ universals ws) (universals ws)) (le-ltb universal_mark w h)

-- the universals alone name the same maps, and ask the same
maps_of : (nodes roots : List ℕ) (n : ℕ) (ws : List ℕ) (j : ℕ) → word_maps nodes roots n (universals ws) j ≡ word_maps nodes roots n ws j
maps_of nodes roots n [] j = refl
maps_of nodes roots n (w ∷ ws) j =
    by_cases (dec_lt universal_mark w)
    (λ h.
    ap (λ (l : List ℕ). word_maps nodes roots n l j) (universals_more w ws h)
    ∙ maps_universal nodes roots n w (universals ws) j h
    ∙ ap (λ (x : List ℕ). word_map nodes roots n j w ++ x) (maps_of nodes roots n ws (suc j))
    ∙ sym (maps_universal nodes roots n w ws j h))
    (λ h.
    let o : w ≤ universal_mark = omega arith in
    ap (λ (l : List ℕ). word_maps nodes roots n l j) (universals_other w ws o) ∙ maps_of nodes roots n ws j ∙ sym (maps_other nodes roots n w ws j o))

ready_of : (roots : List ℕ) (n : ℕ) (ws : List ℕ) (j : ℕ) → Ready roots n ws j ≡ Ready roots n (universals ws) j
ready_of roots n [] j = refl
ready_of roots n (w ∷ ws) j =
    by_cases (dec_lt universal_mark w)
    (λ h.
    ready_universal roots n w ws j h
    ∙ ap (λ (X : Type 0). InTable roots n j × X) (ready_of roots n ws (suc j))
    ∙ sym (ready_universal roots n w (universals ws) j h)
    ∙ ap (λ (l : List ℕ). Ready roots n l j) (sym (universals_more w ws h)))
    (λ h.
    let o : w ≤ universal_mark = omega arith in
    ready_other roots n w ws j o ∙ ready_of roots n ws j ∙ ap (λ (l : List ℕ). Ready roots n l j) (sym (universals_other w ws o)))

-- an item of the loop is a universal with its offset
pub item : (ws : List ℕ) (i j w : ℕ) → i < length (enumerate_from 0 (universals ws)) → (j, w) ≡ get_or (enumerate_from 0 (universals ws)) i (j, w)
    → (i < length (universals ws)) × ((j ≡ i) × ((w ≡ get_or (universals ws) i 0) × (universal_mark < w)))
item ws i j w h e =
    let l : i < length (universals ws) = omega (arith, length-enumerate_from 0 (universals ws)) in
    let p : (j, w) ≡ (0 + i, get_or (universals ws) i w) = e ∙ get_or-enumerate_from 0 (universals ws) i (j, w) l in
    let v : w ≡ get_or (universals ws) i 0 = ap (λ (q : ℕ × ℕ). q.1) p ∙ get_or_default_zero (universals ws) i w l in
    let u = All-get_or (λ x. ltb universal_mark x ≡ true) (universals ws) i 0 l (filter_passes (λ w. ltb universal_mark w) ws) in
    (l, (omega (arith, ap (λ (q : ℕ × ℕ). q.0) p), (v, subst (λ (x : ℕ). universal_mark < x) (sym v) (ltb-true universal_mark (get_or (universals ws) i 0) u))))

-- of the universals among the words, k are done
pub record Mapped (words nodes roots : List ℕ) (n : ℕ) (before after : Out) (k : ℕ) : Type 0 where
  pub done : List ℕ
  pub put : Appended (58399 * k) before after done
  pub whole : done ++ word_maps nodes roots n (drop k (universals words)) k ≡ word_maps nodes roots n words 0
  pub ready : Ready roots n (drop k (universals words)) k
  pub few : k ≤ 16

module _ {words nodes roots : List ℕ} {n : ℕ} {before : Out} where
  pub mapped_begin : Ready roots n words 0 → Mapped words nodes roots n before before 0
  mapped_begin R = record {
    done = [];
    put = nothing before;
    whole = maps_of nodes roots n words 0;
    ready = subst (λ (X : Type 0). X) (ready_of roots n words 0) R;
    few = omega arith;
  }

  module _ {after : Out} {k : ℕ} (P : Mapped words nodes roots n before after k) (w : ℕ) (more : k < length (universals words)) (is : w ≡ get_or (universals words) k 0)
      (h : universal_mark < w) where
    -- the universals from k on
    next : drop k (universals words) ≡ w ∷ drop (suc k) (universals words)
    next = drop-cons (universals words) k 0 more ∙ ap (λ (x : ℕ). x ∷ drop (suc k) (universals words)) (sym is)

    -- the universal that comes has its offset and root in range
    pub mapped_ready : InTable roots n k × Ready roots n (drop (suc k) (universals words)) (suc k)
    mapped_ready =
        subst (λ (X : Type 0). X) (ready_universal roots n w (drop (suc k) (universals words)) k h) (subst (λ (l : List ℕ). Ready roots n l k) next P.ready)

    -- its map is put
    pub mapped_put : {later : Out} → Appended 58399 after later (word_map nodes roots n k w) → Mapped words nodes roots n before later (k + 1)
    mapped_put A = simp add-one (record {
      done = P.done ++ word_map nodes roots n k w;
      put = wider (omega arith) (then P.put A);
      whole =
          append_assoc P.done (word_map nodes roots n k w) (word_maps nodes roots n (drop (suc k) (universals words)) (suc k))
          ∙ ap (λ (x : List ℕ). P.done ++ x)
          (sym (ap (λ (l : List ℕ). word_maps nodes roots n l k) next ∙ maps_universal nodes roots n w (drop (suc k) (universals words)) k h))
          ∙ P.whole;
      ready = mapped_ready.1;
      few = omega (arith, mapped_ready.0.0);
    })

  pub mapped_end : {after : Out} {k : ℕ} → Mapped words nodes roots n before after k → length (universals words) ≤ k
      → Appended 934384 before after (word_maps nodes roots n words 0)
  unfolding word_maps
  mapped_end {after} {k} P h =
      let z : drop k (universals words) ≡ [] = drop_of_length-le (universals words) {i = k} h in
      wider (omega (arith, P.few)) (retext (sym (ap (λ (l : List ℕ). P.done ++ word_maps nodes roots n l k) z ∙ append-nil P.done) ∙ P.whole) P.put)
