-- One row more of a table.
use Rattle.system_model.specs.declared.plan.EndKind.{EndKind}
use Rattle.trace_stream.specs.declared.steps.Ahead.TheVariants.{Finish}
use Rattle.std.proofs.Common.{◌≡◌, ◌==◌, ◌&&◌, inl, inr, ℕ, List, [], ◌∷◌, ◌++◌, if◌then◌else◌, refl, sym, ◌∙◌, ap, subst, append_assoc, append-nil, Option, Some, None, option_map, Bool, true, false}
use Rattle.sim_base.specs.Sink.{SinkView, with_piece}
use Rattle.std.specs.List.{AllZip, concat, flat_map}
use Rattle.std.proofs.lemmas.List.{map-append}
use Rattle.system_model.specs.Text.{Instant}
use Rattle.trace_reading.specs.declared.trace.TraceLine.{TraceLine}
use Rattle.trace_reading.specs.declared.trace.TracePort.{TracePort}
use Rattle.trace_reading.specs.declared.item.Item.{Item}
use Rattle.trace_reading.specs.declared.item.Item.TheVariants.{Row}
use Rattle.trace_reading.specs.Form.{instant_lines}
use Rattle.trace_stream.specs.declared.moment.Moment.{Moment}
use Rattle.trace_stream.specs.declared.stream.TraceStream.{TraceStream}
use Rattle.trace_stream.specs.declared.fault.StreamFault.{StreamFault}
use Rattle.trace_stream.specs.declared.fault.StreamFault.TheVariants as stream
use Rattle.trace_stream.specs.Streams.{instant_of, rows, Stands, Tells}
use Rattle.trace_stream.proofs.CallerLemmas.{stands_whole}
use Rattle.trace_export.specs.declared.fault.ViewFault.TheVariants.{Line}
use Rattle.trace_export.specs.Faults.{told_fault}
use Rattle.trace_export.specs.declared.cells.Form.{Form}
use Rattle.trace_export.specs.Tables.{follows_at, last_at_points, last_before, shown, shown_before, takes_place, HasNone, HasRows, HasSome, IsInstantRow, TellsEach}

-- ---- what was written

pub written_more : (content : Option (List ℕ)) (bytes more text : List ℕ) → option_map (λ b. b ++ bytes) content ≡ Some text → option_map (λ b. b ++ (bytes ++ more)) content ≡ Some (text ++ more)
written_more None bytes more text e = absurd (cc e)
written_more (Some b) bytes more text e =
    let same : b ++ bytes ≡ text = cc e in
    ap (λ (x : List ℕ). Some x) (sym (append_assoc b bytes more) ∙ ap (λ (x : List ℕ). x ++ more) same)

pub written_same : (content : Option (List ℕ)) (bytes : List ℕ) → option_map (λ b. b ++ []) (option_map (λ b. b ++ bytes) content) ≡ option_map (λ b. b ++ bytes) content
written_same None bytes = refl
written_same (Some b) bytes = ap (λ (x : List ℕ). Some x) (append-nil (b ++ bytes))

-- what was kept back was put, and nothing is left
pub flushed : (old new : SinkView) (piece kept left : List ℕ) → new ≡ with_piece old piece → piece ≡ kept → left ≡ [] → option_map (λ b. b ++ left) new.content ≡ option_map (λ b. b ++ kept) old.content
flushed old new piece kept left noted same empty =
    ap (λ (v : SinkView). option_map (λ b. b ++ left) v.content) noted
    ∙ (ap (λ (l : List ℕ). option_map (λ b. b ++ l) (option_map (λ b. b ++ piece) old.content)) empty
    ∙ (written_same old.content piece
    ∙ ap (λ (l : List ℕ). option_map (λ b. b ++ l) old.content) same))

-- a text was put after what is kept back
pub passes : (content : Option (List ℕ)) (bytes added extended row whole : List ℕ) (more : Option (List ℕ)) → extended ≡ bytes ++ added → added ≡ row → more ≡ option_map (λ b. b ++ extended) content → option_map (λ b. b ++ bytes) content ≡ Some whole → more ≡ Some (whole ++ row)
passes content bytes added extended row whole more grown same kept is =
    let all : extended ≡ bytes ++ row = grown ∙ ap (λ (l : List ℕ). bytes ++ l) same in
    kept ∙ (ap (λ (l : List ℕ). option_map (λ b. b ++ l) content) all ∙ written_more content bytes row whole is)

-- ---- faults

pub told_line : (fault : StreamFault) (n : ℕ) → Line n ≡ told_fault fault → fault ≡ stream.Line n
told_line (stream.Line m) n is = cc
told_line stream.Read n is = cc
told_line stream.Memory n is = cc

-- ---- lists

pub zip_more : (forms : List Form) (instants : List Instant) (table : List (List ℕ)) (i : Instant) (text : List ℕ) → AllZip (IsInstantRow forms) instants table → IsInstantRow forms i text → AllZip (IsInstantRow forms) (instants ++ (i ∷ [])) (table ++ (text ∷ []))
zip_more forms [] [] i text each it = (it, tt)
zip_more forms [] (t ∷ table) i text each it = absurd each
zip_more forms (a ∷ instants) [] i text each it = absurd each
zip_more forms (a ∷ instants) (t ∷ table) i text each it = (each.0, zip_more forms instants table i text each.1 it)

pub concat_more : (table : List (List ℕ)) (text : List ℕ) → concat (table ++ (text ∷ [])) ≡ concat table ++ text
concat_more [] text = append-nil text
concat_more (t ∷ table) text = ap (λ (x : List ℕ). t ++ x) (concat_more table text) ∙ sym (append_assoc t (concat table) text)

lines_more : (instants : List Instant) (i : Instant) → flat_map instant_lines instants ++ instant_lines i ≡ flat_map instant_lines (instants ++ (i ∷ []))
lines_more [] i = sym (append-nil (instant_lines i))
lines_more (a ∷ instants) i =
    append_assoc (instant_lines a) (flat_map instant_lines instants) (instant_lines i)
    ∙ ap (λ (ls : List TraceLine). instant_lines a ++ ls) (lines_more instants i)

pub rows_more : (instants : List Instant) (i : Instant) → rows (flat_map instant_lines instants) ++ rows (instant_lines i) ≡ rows (flat_map instant_lines (instants ++ (i ∷ [])))
rows_more instants i =
    sym (map-append (λ (line : TraceLine). Row line) (flat_map instant_lines instants) (instant_lines i))
    ∙ ap rows (lines_more instants i)

-- ---- what is shown

if_append : (b : Bool) (a i : Instant) (shown : List Instant) → (if b then shown ++ (i ∷ []) else a ∷ (shown ++ (i ∷ []))) ≡ (if b then shown else a ∷ shown) ++ (i ∷ [])
if_append true a i shown = refl
if_append false a i shown = refl

same_next : (t : ℕ) (rest : List Instant) (i k : Instant) → follows_at t ((rest ++ (i ∷ [])) ++ (k ∷ [])) ≡ follows_at t (rest ++ (i ∷ []))
same_next t [] i k = refl
same_next t (a ∷ rest) i k = refl

before_replaced : (earlier : List Instant) (i k : Instant) → (i.t == k.t) ≡ true → last_before (earlier ++ (i ∷ [])) k ≡ last_before earlier i
before_replaced [] i k e = ap (λ (b : Bool). if b then [] else (i ∷ [])) e
before_replaced (a ∷ rest) i k e =
    ap (λ (b : Bool). if b then last_before (rest ++ (i ∷ [])) k else a ∷ last_before (rest ++ (i ∷ [])) k) (same_next a.t rest i k)
    ∙ ap (λ (x : List Instant). if follows_at a.t (rest ++ (i ∷ [])) then x else a ∷ x) (before_replaced rest i k e)

before_after : (earlier : List Instant) (i k : Instant) → (i.t == k.t) ≡ false → last_before (earlier ++ (i ∷ [])) k ≡ last_before earlier i ++ (i ∷ [])
before_after [] i k e = ap (λ (b : Bool). if b then [] else (i ∷ [])) e
before_after (a ∷ rest) i k e =
    ap (λ (b : Bool). if b then last_before (rest ++ (i ∷ [])) k else a ∷ last_before (rest ++ (i ∷ [])) k) (same_next a.t rest i k)
    ∙ (ap (λ (x : List Instant). if follows_at a.t (rest ++ (i ∷ [])) then x else a ∷ x) (before_after rest i k e)
    ∙ if_append (follows_at a.t (rest ++ (i ∷ []))) a i (last_before rest i))

last_whole : (earlier : List Instant) (i : Instant) → last_at_points (earlier ++ (i ∷ [])) ≡ last_before earlier i ++ (i ∷ [])
last_whole [] i = refl
last_whole (a ∷ rest) i =
    ap (λ (x : List Instant). if follows_at a.t (rest ++ (i ∷ [])) then x else a ∷ x) (last_whole rest i)
    ∙ if_append (follows_at a.t (rest ++ (i ∷ []))) a i (last_before rest i)

shown_whole : (last : Bool) (earlier : List Instant) (i : Instant) → shown last (earlier ++ (i ∷ [])) ≡ shown_before last earlier i ++ (i ∷ [])
shown_whole true earlier i = last_whole earlier i
shown_whole false earlier i = refl

replaced : (last : Bool) (earlier : List Instant) (i k : Instant) → (last && (i.t == k.t)) ≡ true → shown_before last (earlier ++ (i ∷ [])) k ≡ shown_before last earlier i
replaced true earlier i k e = before_replaced earlier i k e
replaced false earlier i k e = absurd (cc e)

after : (last : Bool) (earlier : List Instant) (i k : Instant) → (last && (i.t == k.t)) ≡ false → shown_before last (earlier ++ (i ∷ [])) k ≡ shown_before last earlier i ++ (i ∷ [])
after true earlier i k e = before_after earlier i k e
after false earlier i k e = refl

-- ---- the first instant, the next and the last

pub has_none : {B : Type 0} (remaining : B → Option (List ℕ)) (stream : TraceStream B) (forms : List Form) (last : Bool) (bytes before row : List ℕ) (out : Option (List ℕ)) → Stands remaining stream bytes [] → row ≡ [] → out ≡ Some before → HasRows remaining stream forms last None bytes before row out
has_none remaining stream forms last bytes before row out stands none is = inl record { stands = stands; at = refl; waits = none; written_is = is }

pub tells_next : {B : Type 0} (remaining : B → Option (List ℕ)) (old new : TraceStream B) (bytes : List ℕ) (before : List Item) (moment : Moment) (more : Bool) → more ≡ true → Tells remaining old new bytes before moment more →
    Stands remaining new bytes (before ++ rows (instant_lines (instant_of moment)))
tells_next remaining old new bytes before moment true is told = told.stands
tells_next remaining old new bytes before moment false is told = cc

-- the row that waited is put, or an instant of its point takes its place
abbrev pub put_row : List ℕ → Bool → List ℕ
put_row row true = []
put_row row false = row

next_row : {B : Type 0} (remaining : B → Option (List ℕ)) (old new : TraceStream B) (forms : List Form) (last : Bool) (point : Option ℕ) (bytes before row text : List ℕ) (moment : Moment) (out more : Option (List ℕ)) (is_replaced : Bool) →
    (has : HasSome remaining old forms last point bytes before row out) → is_replaced ≡ (last && (has.instant.t == moment.t)) →
    ((items : List Item) → Stands remaining old bytes items → Stands remaining new bytes (items ++ rows (instant_lines (instant_of moment)))) → IsInstantRow forms (instant_of moment) text →
    ((whole : List ℕ) → out ≡ Some whole → more ≡ Some (whole ++ put_row row is_replaced)) → HasSome remaining new forms last (Some moment.t) bytes before text more
next_row remaining old new forms last point bytes before row text moment out more true has is goes it passed =
    let P : List Item → Type 0 = λ items. Stands remaining new bytes items in
    let Q : List Instant → Type 0 = λ ins. AllZip (IsInstantRow forms) ins has.table in
    record {
      earlier = has.earlier ++ (has.instant ∷ []);
      instant = instant_of moment;
      stands = subst P (rows_more (has.earlier ++ (has.instant ∷ [])) (instant_of moment)) (goes (rows (flat_map instant_lines (has.earlier ++ (has.instant ∷ [])))) has.stands);
      at = refl;
      table = has.table;
      each = subst Q (sym (replaced last has.earlier has.instant (instant_of moment) (sym is))) has.each;
      waits = it;
      written_is = passed (before ++ concat has.table) has.written_is ∙ ap (λ (x : List ℕ). Some x) (append-nil (before ++ concat has.table));
    }
next_row remaining old new forms last point bytes before row text moment out more false has is goes it passed =
    let P : List Item → Type 0 = λ items. Stands remaining new bytes items in
    let Q : List Instant → Type 0 = λ ins. AllZip (IsInstantRow forms) ins (has.table ++ (row ∷ [])) in
    record {
      earlier = has.earlier ++ (has.instant ∷ []);
      instant = instant_of moment;
      stands = subst P (rows_more (has.earlier ++ (has.instant ∷ [])) (instant_of moment)) (goes (rows (flat_map instant_lines (has.earlier ++ (has.instant ∷ [])))) has.stands);
      at = refl;
      table = has.table ++ (row ∷ []);
      each = subst Q (sym (after last has.earlier has.instant (instant_of moment) (sym is))) (zip_more forms (shown_before last has.earlier has.instant) has.table has.instant row has.each has.waits);
      waits = it;
      written_is = passed (before ++ concat has.table) has.written_is
          ∙ ap (λ (x : List ℕ). Some x) (append_assoc before (concat has.table) row ∙ ap (λ (x : List ℕ). before ++ x) (sym (concat_more has.table row)));
    }

first_row : {B : Type 0} (remaining : B → Option (List ℕ)) (old new : TraceStream B) (forms : List Form) (last : Bool) (point : Option ℕ) (bytes before row text : List ℕ) (moment : Moment) (out more : Option (List ℕ)) (is_replaced : Bool) →
    HasNone remaining old point bytes before row out →
    ((items : List Item) → Stands remaining old bytes items → Stands remaining new bytes (items ++ rows (instant_lines (instant_of moment)))) → IsInstantRow forms (instant_of moment) text →
    ((whole : List ℕ) → out ≡ Some whole → more ≡ Some (whole ++ put_row row is_replaced)) → HasSome remaining new forms last (Some moment.t) bytes before text more
first_row remaining old new forms last point bytes before row text moment out more is_replaced has goes it passed =
    let P : List Item → Type 0 = λ items. Stands remaining new bytes items in
    record {
      earlier = [];
      instant = instant_of moment;
      stands = subst P (rows_more [] (instant_of moment)) (goes [] has.stands);
      at = refl;
      table = [];
      each = none_before last (instant_of moment) forms;
      waits = it;
      written_is = passed before has.written_is ∙ ap (λ (x : List ℕ). Some (before ++ x)) (nothing row is_replaced has.waits);
    }
  where
    nothing : (row : List ℕ) (b : Bool) → row ≡ [] → put_row row b ≡ []
    nothing row true e = refl
    nothing row false e = e

    none_before : (last : Bool) (i : Instant) (forms : List Form) → AllZip (IsInstantRow forms) (shown_before last [] i) []
    none_before true i forms = tt
    none_before false i forms = tt

pub has_more : {B : Type 0} (remaining : B → Option (List ℕ)) (old new : TraceStream B) (forms : List Form) (last : Bool) (point : Option ℕ) (bytes before row text : List ℕ) (moment : Moment) (out more : Option (List ℕ)) (is_replaced : Bool) →
    HasRows remaining old forms last point bytes before row out → is_replaced ≡ takes_place last point moment.t →
    ((items : List Item) → Stands remaining old bytes items → Stands remaining new bytes (items ++ rows (instant_lines (instant_of moment)))) → IsInstantRow forms (instant_of moment) text →
    ((whole : List ℕ) → out ≡ Some whole → more ≡ Some (whole ++ put_row row is_replaced)) → HasRows remaining new forms last (Some moment.t) bytes before text more
has_more remaining old new forms last point bytes before row text moment out more is_replaced (inl none) is goes it passed =
    inr (first_row remaining old new forms last point bytes before row text moment out more is_replaced none goes it passed)
has_more remaining old new forms last point bytes before row text moment out more is_replaced (inr some) is goes it passed =
    inr (next_row remaining old new forms last point bytes before row text moment out more is_replaced some (is ∙ ap (λ (p : Option ℕ). takes_place last p moment.t) some.at) goes it passed)

pub passed_row : (is_replaced : Bool) (now row : List ℕ) → now ≡ row → (if is_replaced then [] else now) ≡ put_row row is_replaced
passed_row true now row same = refl
passed_row false now row same = same

all_rows : {B : Type 0} (remaining : B → Option (List ℕ)) (old : TraceStream B) (told : List TracePort → List Form) (forms : List Form) (last : Bool) (bytes before : List ℕ) (instants : List Instant) (table : List (List ℕ)) (kind : EndKind) (t : ℕ) (out : Option (List ℕ)) → forms ≡ told old.rows.ports →
    Stands remaining old bytes (rows (flat_map instant_lines instants)) → old.ahead ≡ Finish kind t → AllZip (IsInstantRow forms) (shown last instants) table → out ≡ Some (before ++ concat table) → TellsEach told last bytes before out
all_rows remaining old told forms last bytes before instants table kind t out are stands ends each is =
    let P : List Form → Type 0 = λ fs. AllZip (IsInstantRow fs) (shown last instants) table in
    record {
      trace = record { resolution = old.header.resolution; start = old.header.start; stop = old.header.stop; ports = old.rows.ports; lines = flat_map instant_lines instants; kind = kind; point = t };
      text = stands_whole remaining old bytes (flat_map instant_lines instants) kind t stands ends;
      instants = instants;
      lines = refl;
      table = table;
      each = subst P are each;
      written_is = is;
    }

pub has_all : {B : Type 0} (remaining : B → Option (List ℕ)) (old new : TraceStream B) (told : List TracePort → List Form) (forms : List Form) (last : Bool) (point : Option ℕ) (bytes before row : List ℕ) (moment : Moment) (more : Bool) (out whole : Option (List ℕ)) → forms ≡ told old.rows.ports → HasRows remaining old forms last point bytes before row out → more ≡ false →
    ((items : List Item) → Stands remaining old bytes items → Tells remaining old new bytes items moment more) → ((text : List ℕ) → out ≡ Some text → whole ≡ Some (text ++ row)) → TellsEach told last bytes before whole
has_all remaining old new told forms last point bytes before row moment true out whole are has is tells passed = absurd (cc is)
has_all remaining old new told forms last point bytes before row moment false out whole are (inl none) is tells passed =
    let (kind, t, ends, same) = tells [] none.stands in
    all_rows remaining old told forms last bytes before [] [] kind t whole are none.stands ends (nothing_shown last forms) (passed before none.written_is ∙ ap (λ (x : List ℕ). Some (before ++ x)) none.waits)
  where
    nothing_shown : (last : Bool) (forms : List Form) → AllZip (IsInstantRow forms) (shown last []) []
    nothing_shown true forms = tt
    nothing_shown false forms = tt
has_all remaining old new told forms last point bytes before row moment false out whole are (inr some) is tells passed =
    let instants = some.earlier ++ (some.instant ∷ []) in
    let (kind, t, ends, same) = tells (rows (flat_map instant_lines instants)) some.stands in
    let Q : List Instant → Type 0 = λ ins. AllZip (IsInstantRow forms) ins (some.table ++ (row ∷ [])) in
    all_rows remaining old told forms last bytes before instants (some.table ++ (row ∷ [])) kind t whole are some.stands ends
    (subst Q (sym (shown_whole last some.earlier some.instant)) (zip_more forms (shown_before last some.earlier some.instant) some.table some.instant row some.each some.waits))
    (passed (before ++ concat some.table) some.written_is ∙ ap (λ (x : List ℕ). Some x) (append_assoc before (concat some.table) row ∙ ap (λ (x : List ℕ). before ++ x) (sym (concat_more some.table row))))
