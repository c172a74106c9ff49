-- Which refusal is given: that of the first broken rule in the listed order, at its place, where all that comes before passes.
use Rattle.std.proofs.Math.Path.{◌≡◌, refl, ap}
use Rattle.std.proofs.Common.{Ok, Err, sym, ◌∙◌, subst, inl, inr, arith}
use Rattle.std.specs.Prelude.{Bool, true, false, ◌⊎◌, ◌↔◌, ℕ, suc, length}
use mathlib.Core.List.Memᴰ
use mathlib.Core.List.{List, [], ◌∷◌, ◌++◌, append-nil, Memᴰ}
use Rattle.rules.specs.definitions.File.{Decoded}
use Rattle.rules.specs.definitions.Faults.{Fault, Found, first_of}
use Rattle.rules.specs.definitions.Faults.Found.{passes, fails}
use Rattle.rules.specs.definitions.Formula.{Formula}
use Rattle.rules.specs.definitions.Text.{uncommented, Token}
use Rattle.rules.specs.definitions.Reading.{State, begin, Next, step, Reading, read_from, tokens_of, read}
use Rattle.rules.specs.definitions.Reading.Next.{stop, go}
use Rattle.rules.specs.definitions.Reading.Reading.{unread, formula}
use Rattle.rules.specs.definitions.File.{Form, head_faults, head_fault, records}
use Rattle.rules.specs.definitions.Lines.{Row, Rules, Made, unless_found, line_faults, line_row, line_made, decoded_made, next_line}
use Rattle.rules.specs.definitions.Lines.Made.{made, refused}
use Rattle.rules.specs.definitions.Checking.{Passed, lines_from, all_lines, Checked, Manner, rules_of, lines_of, last_checked, when_passed, proof_checked, checked_by}
use Rattle.rules.specs.definitions.Checking.Passed.{passed, stopped}
use Rattle.rules.specs.definitions.Checking.Checked.{rejected, accepted}
use Rattle.theory.specs.laws.Lines.{fails≢passes, refused≢made, all_derived}
use Rattle.rules.specs.statements.Verdict.{First, Steps, Stops, Refuses, FirstLine, Begun, AllPass, Verdict}
use Rattle.rules.specs.statements.Verdict.Steps.{none, next}
use Rattle.rules.specs.statements.Verdict.Stops.{token, ending}
use Rattle.rules.specs.statements.Verdict.Refuses.{no_line, broken_rule}
use Rattle.rules.specs.statements.Verdict.Verdict.{text_refused, head_refused, line_refused, last_refused, accepts}

rejected≢accepted : {n at v : ℕ} {F : Formula} {rows : List Row} → rejected n at v ≡ accepted F rows → ⊥
rejected≢accepted e = let z : ◌≡◌ {A = ℕ} 0 1 = cc in omega arith

first_later : (f : Fault) (fs : List Fault) (m v : ℕ) → f.when ≡ false → First fs m v → First (f ∷ fs) m v
first_later f fs m v e h = record {
  before = f ∷ h.before;
  it = h.it;
  after = h.after;
  split = ap (λ (l : List Fault). f ∷ l) h.split;
  earlier = λ g mem. by g (Memᴰ.cases_cons mem);
  given = h.given;
  number = h.number;
  variable = h.variable;
}
  where
    by : (g : Fault) → (g ≡ f) ⊎ Memᴰ g h.before → g.when ≡ false
    by g (inl p) = ap (λ (x : Fault). x.when) p ∙ e
    by g (inr p) = h.earlier g p

first_found : (fs : List Fault) (m v : ℕ) → first_of fs ≡ fails m v → First fs m v
unfolding first_of
first_found [] m v e = absurd (fails≢passes (sym e))
first_found (f ∷ fs) m v e = by f.when refl (first_found fs m v)
  where
    by : (t : Bool) → f.when ≡ t → (first_of fs ≡ fails m v → First fs m v) → First (f ∷ fs) m v
    by true p ih =
        let q : fails f.number f.variable ≡ fails m v = rw (first_of, p) at e in
        record { before = []; it = f; after = fs; split = refl; earlier = λ g mem. absurd (Memᴰ.not-nil mem); given = p; number = (cc); variable = (cc) }
    by false p ih = first_later f fs m v p (ih (rw (first_of, p) at e))

found_first : (before : List Fault) (it : Fault) (after : List Fault) → ((f : Fault) → Memᴰ f before → f.when ≡ false) → it.when ≡ true
    → first_of (before ++ (it ∷ after)) ≡ fails it.number it.variable
unfolding first_of
found_first [] it after h e = rw e
found_first (f ∷ before) it after h e = rw (first_of, h f (Memᴰ.head refl)) (found_first before it after (λ g mem. h g (Memᴰ.tail mem)) e)

pub first_exact : (fs : List Fault) (m v : ℕ) → (first_of fs ≡ fails m v) ↔ First fs m v
first_exact fs m v = (first_found fs m v, back)
  where
    back : First fs m v → first_of fs ≡ fails m v
    back h = ap first_of h.split ∙ found_first h.before h.it h.after h.earlier h.given ∙ cc (h.number, h.variable)

stops_later : (n : ℕ) (st mid : State) (t : Token) (ts : List Token) (m at : ℕ) → step st t.bytes ≡ go mid → Stops n mid ts m at → Stops n st (t ∷ ts) m at
stops_later n st mid t ts m at e (token before u after end split steps stops place) =
    token (t ∷ before) u after end (ap (λ (l : List Token). t ∷ l) split) (next e steps) stops place
stops_later n st mid t ts m at e (ending last steps end) = ending last (next e steps) end

stops_found : (n : ℕ) (st : State) (ts : List Token) (m at : ℕ) → read_from n st ts ≡ unread m at → Stops n st ts m at
unfolding read_from
stops_found n st [] m at e = ending st none e
stops_found n st (t ∷ ts) m at e = by (step st t.bytes) refl (λ mid. stops_found n mid ts m at)
  where
    by : (x : Next) → step st t.bytes ≡ x → ((mid : State) → read_from n mid ts ≡ unread m at → Stops n mid ts m at) → Stops n st (t ∷ ts) m at
    by (stop k) p ih = let q : unread k t.at ≡ unread m at = rw (read_from, p) at e in token [] t ts st refl none (p ∙ cc) (cc)
    by (go mid) p ih = stops_later n st mid t ts m at p (ih mid (rw (read_from, p) at e))

read_steps : (n : ℕ) (ts : List Token) {st mid : State} {before : List Token} → Steps st before mid → read_from n st (before ++ ts) ≡ read_from n mid ts
unfolding read_from
read_steps n ts none = refl
read_steps n ts (next e s) = rw (read_from, e) (read_steps n ts s)

found_stops : (n : ℕ) (st : State) (ts : List Token) (m at : ℕ) → Stops n st ts m at → read_from n st ts ≡ unread m at
unfolding read_from
found_stops n st ts m at (token before t after mid split steps stops place) =
    ap (read_from n st) split ∙ read_steps n (t ∷ after) steps ∙ rw (read_from, stops, place)
found_stops n st ts m at (ending last steps end) = ap (read_from n st) (sym (append-nil ts)) ∙ read_steps n [] steps ∙ end

-- a text is refused with number m at offset `at` exactly where its first faulty token stands there, or its end is faulty
pub text_exact : (text : List ℕ) (m at : ℕ) → (read text ≡ unread m at) ↔ Stops (length text) begin (tokens_of (uncommented false text 0)) m at
unfolding read
text_exact text m at =
    let ts = tokens_of (uncommented false text 0) in
    (stops_found (length text) begin ts m at, found_stops (length text) begin ts m at)

pub head_exact : (form : Form) (F : Formula) (s : List ℕ) (m v : ℕ) → (head_fault form F s ≡ fails m v) ↔ First (head_faults form F s) m v
unfolding head_fault
head_exact form F s m v = first_exact (head_faults form F s) m v

unless_refused : (t : Found) (row : Row) (m v : ℕ) → unless_found t row ≡ refused m v → t ≡ fails m v
unless_refused passes row m v e = absurd (refused≢made (sym e))
unless_refused (fails k w) row m v e = cc

decoded_refused : (R : Rules) (F : Formula) (rows : List Row) (bytes : List ℕ) (m v : ℕ) (d : Decoded) → R.decode bytes ≡ d
    → decoded_made R F rows (suc (length rows)) d ≡ refused m v → Refuses R F rows bytes m v
unfolding line_made
decoded_refused R F rows bytes m v (Ok l) e h =
    let i = suc (length rows) in
    broken_rule l e ((first_exact (line_faults R F rows i l) m v).0 (unless_refused (first_of (line_faults R F rows i l)) (line_row R F rows i l) m v h))
decoded_refused R F rows bytes m v (Err k) e h = no_line (e ∙ cc) (cc)

pub record_exact : (R : Rules) (F : Formula) (rows : List Row) (bytes : List ℕ) (m v : ℕ) → (next_line R F rows bytes ≡ refused m v) ↔ Refuses R F rows bytes m v
unfolding next_line line_made
record_exact R F rows bytes m v = (decoded_refused R F rows bytes m v (R.decode bytes) refl, back)
  where
    back : Refuses R F rows bytes m v → next_line R F rows bytes ≡ refused m v
    back (no_line e z) = rw (e, z)
    back (broken_rule l e f) = rw e (ap (λ (t : Found). unless_found t (line_row R F rows (suc (length rows)) l)) ((first_exact (line_faults R F rows (suc (length rows)) l) m v).1 f))

-- from rows made already
record StopsAt (R : Rules) (F : Formula) (start : List Row) (rs : List (List ℕ)) (m i v : ℕ) : Type 0 where
  before : List (List ℕ)
  bytes : List ℕ
  after : List (List ℕ)
  split : rs ≡ before ++ (bytes ∷ after)
  rows : List Row
  place : i ≡ suc (length rows)
  earlier : lines_from R F start before ≡ passed rows
  refuses : Refuses R F rows bytes m v

module _ (R : Rules) (F : Formula) (m i v : ℕ) where
  stops_at : (start : List Row) (rs : List (List ℕ)) → lines_from R F start rs ≡ stopped m i v → StopsAt R F start rs m i v
  unfolding lines_from
  stops_at start [] e = let z : ◌≡◌ {A = ℕ} 0 1 = cc in absurd (omega arith)
  stops_at start (r ∷ rs) e = by (next_line R F start r) refl (λ row. stops_at (start ++ (row ∷ [])) rs)
    where
      by : (x : Made) → next_line R F start r ≡ x → ((row : Row) → lines_from R F (start ++ (row ∷ [])) rs ≡ stopped m i v → StopsAt R F (start ++ (row ∷ [])) rs m i v)
          → StopsAt R F start (r ∷ rs) m i v
      by (made row) p ih =
          let s = ih row (rw (lines_from, p) at e) in
          record {
            before = r ∷ s.before;
            bytes = s.bytes;
            after = s.after;
            split = ap (λ (l : List (List ℕ)). r ∷ l) s.split;
            rows = s.rows;
            place = s.place;
            earlier = rw (lines_from, p) s.earlier;
            refuses = s.refuses;
          }
      by (refused k w) p ih =
          let q : stopped k (suc (length start)) w ≡ stopped m i v = rw (lines_from, p) at e in
          record { before = []; bytes = r; after = rs; split = refl; rows = start; place = (cc); earlier = refl; refuses = (record_exact R F start r m v).0 (p ∙ cc) }

  -- lines that pass, and what is left
  lines_append : (start : List Row) (before rest : List (List ℕ)) (rows : List Row) → lines_from R F start before ≡ passed rows → lines_from R F start (before ++ rest) ≡ lines_from R F rows rest
  unfolding lines_from
  lines_append start [] rest rows e = let p : start ≡ rows = cc in ap (λ (w : List Row). lines_from R F w rest) p
  lines_append start (r ∷ before) rest rows e = by (next_line R F start r) refl (λ row. lines_append (start ++ (row ∷ [])) before rest rows)
    where
      by : (x : Made) → next_line R F start r ≡ x → ((row : Row) → lines_from R F (start ++ (row ∷ [])) before ≡ passed rows
          → lines_from R F (start ++ (row ∷ [])) (before ++ rest) ≡ lines_from R F rows rest)
          → lines_from R F start (r ∷ (before ++ rest)) ≡ lines_from R F rows rest
      by (made row) p ih = rw (lines_from, p) (ih row (rw (lines_from, p) at e))
      by (refused k w) p ih = let z : ◌≡◌ {A = ℕ} 0 1 = cc (rw (lines_from, p) at e) in absurd (omega arith)

  -- the lines stop at line i with number m and variable v exactly where those before pass and its record is refused so
  pub stopped_exact : (rs : List (List ℕ)) → (all_lines R F rs ≡ stopped m i v) ↔ FirstLine R F rs m i v
  unfolding all_lines lines_from
  stopped_exact rs = (forth, back)
    where
      forth : all_lines R F rs ≡ stopped m i v → FirstLine R F rs m i v
      forth e =
          let s = stops_at [] rs e in
          record {
            before = s.before;
            bytes = s.bytes;
            after = s.after;
            split = s.split;
            place = omega (arith, s.place, (all_derived R F s.before s.rows s.earlier).1);
            rows = s.rows;
            earlier = s.earlier;
            refuses = s.refuses;
          }

      back : FirstLine R F rs m i v → all_lines R F rs ≡ stopped m i v
      back h =
          ap (lines_from R F []) h.split
          ∙ lines_append [] h.before (h.bytes ∷ h.after) h.rows h.earlier
          ∙ rw (lines_from, (record_exact R F h.rows h.bytes m v).1 h.refuses)
          (ap (λ (k : ℕ). stopped m k v) (omega (arith, h.place, (all_derived R F h.before h.rows h.earlier).1)))

module _ (m : Manner) (text proof : List ℕ) where
  last_verdict : (F : Formula) (rows : List Row) → AllPass m text proof F rows → (t : Bool) → m.asks rows ≡ t → Verdict m text proof (last_checked m F rows)
  last_verdict F rows a true p = rw (last_checked, p) (accepts F rows a p)
  last_verdict F rows a false p = rw (last_checked, p) (last_refused F rows a p)

  lines_verdict : (F : Formula) → Begun m text proof F → (p : Passed) → lines_of m F proof ≡ p → Verdict m text proof (when_passed m F p)
  lines_verdict F b (passed rows) l = last_verdict F rows (record { begun = b; lines = l }) (m.asks rows) refl
  lines_verdict F b (stopped n i v) l = line_refused F b ((stopped_exact (rules_of m F proof) F n i v (records m.form F proof)).0 l)

  head_verdict : (F : Formula) → read text ≡ formula F → (f : Found) → head_fault m.form F proof ≡ f → Verdict m text proof (proof_checked m F proof)
  head_verdict F e passes h = rw (proof_checked, h) (lines_verdict F (record { given = e; head = h }) _ refl)
  head_verdict F e (fails n v) h = rw (proof_checked, h) (head_refused F e ((head_exact m.form F proof n v).0 h))

  text_verdict : (r : Reading) → read text ≡ r → Verdict m text proof (checked_by m text proof)
  unfolding checked_by
  text_verdict (unread n at) e = rw (checked_by, e) (text_refused ((text_exact text n at).0 e))
  text_verdict (formula F) e = rw (checked_by, e) (head_verdict F e _ refl)

  verdict_checked : (c : Checked) → Verdict m text proof c → checked_by m text proof ≡ c
  unfolding checked_by
  verdict_checked c (text_refused {n = n} {at = at} s) = rw (checked_by, (text_exact text n at).1 s)
  verdict_checked c (head_refused {n = n} {v = v} F e s) = rw (checked_by, e, proof_checked, (head_exact m.form F proof n v).1 s)
  verdict_checked c (line_refused {n = n} {i = i} {v = v} F b s) =
      rw (checked_by, b.given, proof_checked, b.head, (stopped_exact (rules_of m F proof) F n i v (records m.form F proof)).1 s)
  verdict_checked c (last_refused F rows a p) = rw (checked_by, a.begun.given, proof_checked, a.begun.head, a.lines, last_checked, p)
  verdict_checked c (accepts F rows a p) = rw (checked_by, a.begun.given, proof_checked, a.begun.head, a.lines, last_checked, p)

  -- checking gives a verdict exactly where its stage does, in the listed order
  pub verdict_exact : (c : Checked) → (checked_by m text proof ≡ c) ↔ Verdict m text proof c
  verdict_exact c = (λ e. subst (Verdict m text proof) e (text_verdict (read text) refl), verdict_checked c)

-- what is accepted passed all stages
pub accepted_passes : (m : Manner) (text proof : List ℕ) (F : Formula) (rows : List Row) → checked_by m text proof ≡ accepted F rows
    → AllPass m text proof F rows × (m.asks rows ≡ true)
accepted_passes m text proof F rows e = by (accepted F rows) refl ((verdict_exact m text proof (accepted F rows)).0 e)
  where
    by : (c : Checked) → c ≡ accepted F rows → Verdict m text proof c → AllPass m text proof F rows × (m.asks rows ≡ true)
    by c h (text_refused s) = absurd (rejected≢accepted h)
    by c h (head_refused G r s) = absurd (rejected≢accepted h)
    by c h (line_refused G b s) = absurd (rejected≢accepted h)
    by c h (last_refused G w a p) = absurd (rejected≢accepted h)
    by c h (accepts G w a p) =
        let f : G ≡ F = cc in
        let r : w ≡ rows = cc in
        (subst (λ (X : Formula). AllPass m text proof X rows) f (subst (AllPass m text proof G) r a), subst (λ (x : List Row). m.asks x ≡ true) r p)
