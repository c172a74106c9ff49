-- `states::block_token` meets its contract.
use Rattle.std.proofs.Common.{ℕ, ap, sym, ◌∙◌, ◌+◌, arith}
use Rattle.rules.specs.declared.refusals.Refusal.TheVariants as K
use Rattle.formula.specs.States.{quant_of, bound_as, state_of}
use Rattle.formula.proofs.StateLaws.{done_count, kept_bind, one_universal_more, no_universal_more, universal_word, existential_word, full_yes, full_no, full_never}
use Rattle.formula.proofs.StepLaws.{after_stops, block_past, block_twice, block_full, block_binds}
use Rattle.formula.proofs.states.block_token.Goals as goal

pub returns-then-s-v : goal.returns-then-s-v
returns-then-s-v c =
    let a = c.args in
    λ bs cs st.
    after_stops a.token.at bs cs _ K.NoVariable c.at-then-s-v.result c.at-then-s-v.ensures
    (block_past (state_of a.s bs cs) (quant_of a.universal) a.some _ _ _ c.in_ok-l.ensures c.if-l.false c.if-v-eq0.false c.if-s-v.true)

pub returns-then-has : goal.returns-then-has
returns-then-has c =
    let a = c.args in
    λ bs cs st.
    after_stops a.token.at bs cs _ K.BoundTwice c.at-then-has.result c.at-then-has.ensures
    (block_twice (state_of a.s bs cs) (quant_of a.universal) a.some _ _ _ c.in_ok-l.ensures c.if-l.false c.if-v-eq0.false c.if-s-v.false (sym (st.kept.known _) ∙ sym c.has.ensures ∙ c.if-has.true))

pub returns-then-universals-ge-UNIVERSALS_MOST : goal.returns-then-universals-ge-UNIVERSALS_MOST
returns-then-universals-ge-UNIVERSALS_MOST c =
    let a = c.args in
    λ bs cs st.
    after_stops a.token.at bs cs _ K.TooManyUniversals c.at-then-universals-ge-UNIVERSALS_MOST.result c.at-then-universals-ge-UNIVERSALS_MOST.ensures
    (block_full (state_of a.s bs cs) (quant_of a.universal) a.some _ _ _ c.in_ok-l.ensures c.if-l.false c.if-v-eq0.false c.if-s-v.false (sym (st.kept.known _) ∙ sym c.has.ensures ∙ c.if-has.false)
    (full_yes (state_of a.s bs cs) a.universal c.if-universal.true (omega (arith, c.if-universals-ge-UNIVERSALS_MOST.true, st.kept.universals))))

pub returns-then-universal : goal.returns-then-universal
returns-then-universal c =
    let a = c.args in
    let v = c.in_ok-l.l.variable in
    λ bs cs st. (
      bound_as a.universal v,
      block_binds (state_of a.s bs cs) (quant_of a.universal) a.some _ _ _ c.in_ok-l.ensures c.if-l.false c.if-v-eq0.false c.if-s-v.false (sym (st.kept.known _) ∙ sym c.has.ensures ∙ c.if-has.false)
          (full_no (state_of a.s bs cs) a.universal c.if-universal.true (omega (arith, c.if-universals-ge-UNIVERSALS_MOST.false, st.kept.universals))),
      universal_word v a.universal c.if-universal.true,
      record {
        kept = kept_bind a.s.prefix a.s.done bs cs st.kept _ v a.universal (omega arith) (omega (arith, a.s.header.few_variables))
            (c.with-prefix.ensures.0, c.with-prefix.ensures.1, c.with-prefix.ensures.2 ∙ ap (λ (n : ℕ). n + 1) st.kept.universals ∙ sym (one_universal_more bs v a.universal c.if-universal.true));
        room = done_count a.s bs cs st;
      },
    )

pub returns : goal.returns
returns c =
    let a = c.args in
    let v = c.in_ok-l.l.variable in
    λ bs cs st. (
      bound_as a.universal v,
      block_binds (state_of a.s bs cs) (quant_of a.universal) a.some _ _ _ c.in_ok-l.ensures c.if-l.false c.if-v-eq0.false c.if-s-v.false (sym (st.kept.known _) ∙ sym c.has.ensures ∙ c.if-has.false)
          (full_never (state_of a.s bs cs) a.universal c.if-universal.false),
      existential_word v a.universal c.if-universal.false,
      record {
        kept = kept_bind a.s.prefix a.s.done bs cs st.kept _ v a.universal (omega arith) (omega (arith, a.s.header.few_variables))
            (c.with-prefix-2.ensures.0, c.with-prefix-2.ensures.1, c.with-prefix-2.ensures.2 ∙ st.kept.universals ∙ sym (no_universal_more bs v a.universal c.if-universal.false));
        room = done_count a.s bs cs st;
      },
    )
