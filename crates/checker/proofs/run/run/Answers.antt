-- `run::run` meets its contract. The invariant: after i lines their rows stand in the tables, and the run from the start is the run of the records left (Runs).
use Rattle.std.proofs.Common.{◌≡◌, ◌≤◌, ◌+◌, ◌*◌, ◌-◌, drop, take, length, ℕ, refl, ap, sym, ◌∙◌, rules, arith}
use lib.Seq.{length-take-le}
use lib.ListN.{length-drop}
use Rattle.rules.specs.definitions.Layout.{head_bytes}
use Rattle.rules.specs.definitions.File.{split}
use Rattle.checker.specs.Tables.{words_of}
use Rattle.checker.specs.Runs.{SoFar}
use Rattle.checker.proofs.Runs.{so_far_none, ready, record_taken, so_far_stop, so_far_more, so_far_all}
use Rattle.checker.proofs.run.run.Goals as goal

pub loop-i-init : goal.loop-i-init
loop-i-init c =
    let z : c.into_iter-i-iterator.result.count ≡ 0 = search rules in
    let r : c.into_iter-i-iterator.result.iter.rest.now ≡ take (7 + 8 * c.args.n - 7) (drop 7 c.args.proof.now) = search rules in
    let e : 7 + 8 * c.args.n - 7 ≡ 8 * c.args.n = omega arith in
    record {
      same = (refl, refl, refl);
      size = search rules;
      few = search rules;
      left = rw z (r ∙ ap (λ (k : ℕ). take k (drop 7 c.args.proof.now)) e);
      so_far = λ R F W. rw z (so_far_none R F _ c.args.proof.now c.args.n W c.requires.records.0 _ c.requires.blank);
    }

pub make_line-requires : goal.make_line-requires
make_line-requires c =
    let R = c.requires.formula.0 in
    let F = c.requires.formula.1 in
    let W = c.requires.formula.2 in
    let l = c.loop-i in
    let proof = c.args.proof.now in
    let s = c.in-Some.ensures.steps in
    let S : SoFar R F (split c.args.n (drop head_bytes proof)) (words_of c.args.tables.now) (words_of l.tables) c.in-Some.i = rw s.1 (l.invariant.so_far R F W) in
    let t = record_taken proof _ _ _ c.args.n _ _ c.requires.records.1 l.invariant.few l.invariant.left s.0.1.0 (s.0.1.1 ∙ l.invariant.size) s.1 in
    (s.0.1.1 ∙ l.invariant.size, (R, F, S.rows, words_of c.args.tables.now, rw c.rows.ensures (ready R F _ proof c.args.n W c.requires.records.0 _ _ c.in-Some.i S t.0)))

pub returns-in-Err-clause-ran : goal.returns-in-Err-clause-ran
returns-in-Err-clause-ran c = λ R F W.
    let l = c.loop-i in
    let proof = c.args.proof.now in
    let s = c.in-Some.ensures.steps in
    let S : SoFar R F (split c.args.n (drop head_bytes proof)) (words_of c.args.tables.now) (words_of l.tables) c.in-Some.i = rw s.1 (l.invariant.so_far R F W) in
    let t = record_taken proof _ _ _ c.args.n _ _ c.requires.records.1 l.invariant.few l.invariant.left s.0.1.0 (s.0.1.1 ∙ l.invariant.size) s.1 in
    rw c.at.ensures (so_far_stop R F _ proof c.args.n W c.requires.records.0 _ _ c.in-Some.i S t.0 _ t.1 c.in-Err.fault
    (c.in-Err.ensures R F S.rows (words_of c.args.tables.now) (rw c.rows.ensures (ready R F _ proof c.args.n W c.requires.records.0 _ _ c.in-Some.i S t.0))))

pub loop-i-preserved : goal.loop-i-preserved
loop-i-preserved c =
    let l = c.loop-i in
    let s = c.in-Some.ensures.steps in
    let proof = c.args.proof.now in
    let t = record_taken proof _ _ _ c.args.n _ _ c.requires.records.1 l.invariant.few l.invariant.left s.0.1.0 (s.0.1.1 ∙ l.invariant.size) s.1 in
    let next : c.next.new.self.count ≡ c.in-Some.i + 1 = s.2 ∙ ap (λ (k : ℕ). k + 1) (sym s.1) in
    record {
      same = search;
      size = s.0.0 ∙ l.invariant.size;
      few = omega (arith, next, t.0);
      left = rw s.2 t.2;
      so_far = λ R F W.
          let S : SoFar R F (split c.args.n (drop head_bytes proof)) (words_of c.args.tables.now) (words_of l.tables) c.in-Some.i = rw s.1 (l.invariant.so_far R F W) in
          rw next (so_far_more R F _ proof c.args.n W c.requires.records.0 _ _ c.in-Some.i S t.0 _ t.1 c.in-Ok.m
          (c.in-Ok.ensures R F S.rows (words_of c.args.tables.now) (rw c.rows.ensures (ready R F _ proof c.args.n W c.requires.records.0 _ _ c.in-Some.i S t.0)))
          _
          c.put_line.ensures.words);
    }

pub returns-clause-ran : goal.returns-clause-ran
returns-clause-ran c = λ R F W.
    let l = c.loop-i in
    let proof = c.args.proof.now in
    let body = drop 7 proof in
    let end : c.args.n ≤ l.i-iterator.count =
    omega (arith, c.in-None.ensures.steps.0.1.0, l.invariant.size, ap length l.invariant.left, length-drop (8 * l.i-iterator.count) (take (8 * c.args.n) body), length-take-le (8 * c.args.n) body (omega (arith, length-drop 7 proof, c.requires.records.1))) in
    so_far_all R F _ proof c.args.n W c.requires.records.0 _ _ l.i-iterator.count (l.invariant.so_far R F W) end
