-- Lines of the commands of a table are what clap takes, of arguments with the form of one.
use Rattle.std.proofs.Common.{◌≡◌, ◌∙◌, ◌⊎◌, inl, inr, ◌&&◌, ◌||◌, ◌+◌, Bool, true, false, ℕ, List, [], ◌∷◌, Option, Some, None, option_map, refl, sym, subst, ap, ap₂, true≢false, cond, is_some, drop}
use Rattle.std.specs.Box.{box_value}
use Rattle.clap.specs.Matches.{found_of}
use Rattle.clap.specs.Simple.{subcommand_rows}
use Rattle.clap.specs.Walk.{rows_of}
use Rattle.clap.specs.declared.parser.matches.SubCommand.{SubCommand}
use Rattle.clap.specs.declared.parser.matches.ArgMatches.TheViews.{out-SubCommand}
use Rattle.std.specs.Prelude.{Box, slice_get, find, option_and_then}
use Rattle.std.specs.Str.{bytes_eq}
use Rattle.std.specs.List.{list_any}
use Rattle.clap.specs.Kinds.{Kinds}
use Rattle.clap.specs.Faults.{built_fault, fault_of}
use Rattle.clap.specs.Simple.{App, Shape, built, entered, names_of, label_of, subcommand_of}
use Rattle.clap.specs.Walk.{Row, Rule, answers_to, arg_by_long, first_of, nothing_held, stop_after}
use Rattle.clap.proofs.WalkLemmas.{both}
use Rattle.command_line.specs.Form.{are_items, has_form}
use Rattle.command_line.specs.Words.{Item, Word, has_each_once, is_among, is_plain, option, positional, positionals_of}
use Rattle.command_line.specs.Line.{CommandRow, IsLineOf, given, has_room, positional_named, command_named, option_names}
use Rattle.command_line.specs.Table.{HasPlaces, IsPart, IsTable, Parts, is_proper, names_in}
use Rattle.command_line.proofs.Walks.{no_kinds, or_false, same_bytes}
use Rattle.command_line.proofs.Items.{IsCommand, differs, fits, new_row, new_rows, option_value}
use Rattle.command_line.proofs.Spelled.{are_items-items_from, items_of_test, items_spelled, passes_among, spelled_from}
use Rattle.command_line.proofs.Levels.{IsLoose, level_is, level_rows}
use Rattle.command_line.proofs.Commands.{command_from}
use Rattle.command_line.proofs.Tops.{known_faults, known_rows, unknown_fails}

-- ---- the rows of a subcommand

module _ {Z : Type 0} where
  pub whole_rows : (o : Option (Box SubCommand Z)) (n : Word) (rows : List Row) → Some n ≡ option_map (λ b. (out-SubCommand (box_value b)).name.now) o
      → Some rows ≡ option_map (λ p. p.1) (subcommand_rows o) → subcommand_rows o ≡ Some (n, rows)
  whole_rows None n rows e f = cc
  whole_rows (Some b) n rows e f =
      let first : (out-SubCommand (box_value b)).name.now ≡ n = cc in
      let second : rows_of (found_of (out-SubCommand (box_value b)).matches) ≡ rows = cc in
      ap₂ (λ x y. Some (x, y)) first second

-- ---- the places of the positionals

fits_is : (c : List Rule) (p : ℕ) (qs vs : List Word) → HasPlaces c p qs → fits c p vs ≡ has_room qs vs
fits_is c p qs [] h = refl
fits_is c p [] (v ∷ vs) h = rw h refl
fits_is c p (q ∷ qs) (v ∷ vs) h = rw h.1 (fits_is c (p + 1) qs vs h.3)

-- a positional's row has the value at its place
module _ (c : List Rule) (names : List Word) (command : IsCommand c names) where
  place_row : (items : List Item) (p : ℕ) (before : List Word) (qs : List Word) (n : Word) → is_among n names ≡ false → HasPlaces c p qs
      → has_each_once names before items ≡ true → has_room qs (positionals_of items) ≡ true → first_of n (new_rows c names command p items) ≡ positional_named n qs (positionals_of items)
  place_row [] p before [] n other places once room = refl
  place_row [] p before (q ∷ qs) n other places once room = refl
  place_row (option m v ∷ items) p before qs n other places once room =
      go (arg_by_long c m) refl (place_row items p (m ∷ before) qs n other places (both _ _ (both (is_among m names) _ once).1).1 room)
    where
      known : is_among m names ≡ true
      known = (both (is_among m names) _ once).0

      go : (o : Option Rule) → arg_by_long c m ≡ o → first_of n (new_rows c names command p items) ≡ positional_named n qs (positionals_of items)
          → first_of n (new_rows c names command p (option m v ∷ items)) ≡ positional_named n qs (positionals_of items)
      go None found ih = absurd (true≢false (sym known ∙ sym (command.names_are m) ∙ ap is_some found))
      go (Some a) found ih =
          let apart : bytes_eq a.id n ≡ false = differs c names command a.id n (λ e. true≢false (sym known ∙ ap (λ t. is_among t names) (sym (command.by_name m a found) ∙ e) ∙ other)) in
          rw (found, apart) ih
  place_row (positional v ∷ items) p before [] n other places once room = absurd (true≢false (sym room))
  place_row (positional v ∷ items) p before (q ∷ qs) n other places once room =
      let ih = place_row items (p + 1) before qs n other places.3 once room in
      let same : bytes_eq places.0.id n ≡ bytes_eq q n = ap (λ t. bytes_eq t n) places.2 in rw (places.1, same) (by_test (bytes_eq q n) ih)
    where
      by_test : (b : Bool) → first_of n (new_rows c names command (p + 1) items) ≡ positional_named n qs (positionals_of items)
          → option_and_then (λ (r : Row). slice_get r.values 0) (cond b (Some (new_row places.0 v)) (find (λ r. bytes_eq r.id n) (new_rows c names command (p + 1) items)))
          ≡ cond b (Some v) (positional_named n qs (positionals_of items))
      by_test true ih = refl
      by_test false ih = ih

-- ---- a table

abbrev sub_in : List Shape → Word → Option Shape
sub_in ss word = find (λ s. answers_to word (label_of s)) ss

record Found (ss : List Shape) (gs : List CommandRow) (name : Word) : Type 0 where
  shape : Shape
  row : CommandRow
  sub : sub_in ss name ≡ Some shape
  entry : command_named gs name ≡ Some row
  part : IsPart shape row
  named : row.name ≡ name

found_or : (ss : List Shape) (gs : List CommandRow) (name : Word) → Parts ss gs → ((sub_in ss name ≡ None) × (command_named gs name ≡ None)) ⊎ Found ss gs name
found_or [] [] name parts = inl (refl, refl)
found_or [] (g ∷ gs) name parts = absurd parts
found_or (s ∷ ss) [] name parts = absurd parts
found_or (s ∷ ss) (g ∷ gs) name parts = go (bytes_eq g.name name) refl (found_or ss gs name parts.1)
  where
    answers : answers_to name (label_of s) ≡ bytes_eq g.name name
    answers = ap₂ (λ (n : Word) (aliases : List Word). bytes_eq n name || list_any (λ alias. bytes_eq alias name) aliases) parts.0.named parts.0.no_alias ∙ or_false (bytes_eq g.name name)

    go : (b : Bool) → bytes_eq g.name name ≡ b → ((sub_in ss name ≡ None) × (command_named gs name ≡ None)) ⊎ Found ss gs name
        → ((sub_in (s ∷ ss) name ≡ None) × (command_named (g ∷ gs) name ≡ None)) ⊎ Found (s ∷ ss) (g ∷ gs) name
    go true e ih = inr (record { shape = s; row = g; sub = rw (answers, e) refl; entry = rw e refl; part = parts.0; named = same_bytes g.name name e })
    go false e (inl h) = inl (rw (answers, e) h.0, rw e h.1)
    go false e (inr f) = inr (record { shape = f.shape; row = f.row; sub = rw (answers, e) f.sub; entry = rw e f.entry; part = f.part; named = f.named })

-- ---- no kinds

empty_none : (k : Kinds) → k ≡ [] → no_kinds k ≡ true
empty_none k e = ap no_kinds e

none_empty : (k : Kinds) → no_kinds k ≡ true → k ≡ []
none_empty [] e = refl
none_empty (k ∷ ks) e = cc

-- ---- one command of the table

module _ (app : App) (commands : List CommandRow) (table : IsTable app commands) where
  faults_are : (words : List Word) → fault_of app words ≡ built_fault (built app) nothing_held words
  faults_are words = ap (λ b. built_fault (built app) nothing_held (cond b words (drop 1 words))) table.whole_words

  subcommand_is : (words : List Word) → subcommand_of app words ≡ entered (built app) (stop_after (built app).top.rules (names_of (built app)) words)
  subcommand_is words = ap (λ b. entered (built app) (stop_after (built app).top.rules (names_of (built app)) (cond b words (drop 1 words)))) table.whole_words

  module _ (name : Word) (f : Found (built app).subs commands name) where
    abbrev rules : List Rule
    rules = f.shape.rules

    abbrev names : List Word
    names = names_in rules

    abbrev command : IsCommand rules names
    command = command_from rules f.part.command

    loose : IsLoose f.shape
    loose = record { bare = f.part.bare; again = f.part.again; help = f.part.help; subcommand = f.part.subcommand; negates = f.part.negates }

    shape_named : f.shape.name ≡ name
    shape_named = f.part.named ∙ f.named

    -- the rows give what the items give
    rows_give : (items : List Item) → has_each_once names [] items ≡ true → has_room f.row.positionals (positionals_of items) ≡ true
        → (n : Word) → first_of n (new_rows rules names command 1 items) ≡ given f.row items n
    rows_give items once room n = go (is_among n names) refl
      where
        places : fits rules 1 (positionals_of items) ≡ true
        places = fits_is rules 1 f.row.positionals (positionals_of items) f.part.places ∙ room

        same : is_among n (option_names f.row) ≡ is_among n names
        same = ap (λ ns. is_among n ns) (sym f.part.options)

        go : (b : Bool) → is_among n names ≡ b → first_of n (new_rows rules names command 1 items) ≡ given f.row items n
        go true e = by_rule (arg_by_long rules n) refl
          where
            by_rule : (o : Option Rule) → arg_by_long rules n ≡ o → first_of n (new_rows rules names command 1 items) ≡ given f.row items n
            by_rule None found = absurd (true≢false (sym e ∙ sym (command.names_are n) ∙ ap is_some found))
            by_rule (Some d) found = option_value rules names command items 1 [] n d found once places ∙ sym (rw (same, e) refl)
        go false e = place_row rules names command items 1 [] f.row.positionals n e f.part.places once room ∙ sym (rw (same, e) refl)

  -- ---- the whole

  -- clap's rows for the arguments, and what they say of them
  pub record Gives (words : List Word) : Type 0 where
    pub name : Word
    pub rows : List Row
    pub sub : subcommand_of app words ≡ Some (name, rows)
    pub line : IsLineOf commands words name (λ n. first_of n rows)

  -- arguments of the form that clap takes are a line, and its rows give what the line gives
  pub line_from : (words : List Word) → has_form words ≡ true → fault_of app words ≡ [] → Gives words
  line_from [] form none = absurd (true≢false (sym form))
  line_from (name ∷ rest) form none = go (found_or (built app).subs commands name table.parts)
    where
      parts : (is_plain name ≡ true) × (are_items false rest ≡ true)
      parts = both (is_plain name) _ form

      no_fault : no_kinds (built_fault (built app) nothing_held (name ∷ rest)) ≡ true
      no_fault = empty_none _ (sym (faults_are (name ∷ rest)) ∙ none)

      go : ((sub_in (built app).subs name ≡ None) × (command_named commands name ≡ None)) ⊎ Found (built app).subs commands name → Gives (name ∷ rest)
      go (inl h) = absurd (true≢false (sym no_fault ∙ unknown_fails (built app) table.top name rest parts.0 h.0))
      go (inr f) =
          let got = items_of_test rest parts.1 in
          let all = sym (level_is f.shape (names name f) (command name f) (loose name f) rest got.0 got.1)
          ∙ sym (known_faults (built app) table.top name f.shape f.sub (shape_named name f) rest) ∙ no_fault in
          let once = (both (has_each_once (names name f) [] got.0) _ all).0 in
          let room = sym (fits_is f.shape.rules 1 f.row.positionals (positionals_of got.0) f.part.places) ∙ (both (has_each_once (names name f) [] got.0) _ all).1 in
          record {
            name = name;
            rows = new_rows f.shape.rules (names name f) (command name f) 1 got.0;
            sub = subcommand_is (name ∷ rest) ∙ known_rows (built app) table.top name f.shape f.sub (shape_named name f) rest
                ∙ ap (λ rows. Some (name, rows)) (level_rows f.shape (names name f) (command name f) (loose name f) rest got.0 got.1 all);
            line = record {
              rest = rest;
              begins = refl;
              row = f.row;
              found = f.entry;
              items = got.0;
              spelled = spelled_from rest got.0 got.1;
              once = ap (λ ns. has_each_once ns [] got.0) (sym f.part.options) ∙ once;
              room = room;
              gives = λ i. λ n. rows_give name f got.0 once room n i;
            };
          }

  -- a line has the form, and clap takes it, with rows that give what it gives
  pub record IsTaken (words : List Word) (name : Word) (get : Word → Option Word) : Type 0 where
    pub form : has_form words ≡ true
    pub none : fault_of app words ≡ []
    pub rows : List Row
    pub sub : subcommand_of app words ≡ Some (name, rows)
    pub gives : get ≡ (λ n. first_of n rows)

  pub line_taken : (words : List Word) (name : Word) (get : Word → Option Word) → IsLineOf commands words name get → IsTaken words name get
  line_taken words name get line = subst (λ ws. IsTaken ws name get) (sym line.begins) (go (found_or (built app).subs commands name table.parts))
    where
      go : ((sub_in (built app).subs name ≡ None) × (command_named commands name ≡ None)) ⊎ Found (built app).subs commands name → IsTaken (name ∷ line.rest) name get
      go (inl h) = let bad : None ≡ Some line.row = sym h.1 ∙ line.found in cc
      go (inr f) =
          let entry : Some f.row ≡ Some line.row = sym f.entry ∙ line.found in
          let same : line.row ≡ f.row = cc in
          let options = ap option_names same ∙ sym f.part.options in
          let once = ap (λ ns. has_each_once ns [] line.items) (sym options) ∙ line.once in
          let room = ap (λ (g : CommandRow). has_room g.positionals (positionals_of line.items)) (sym same) ∙ line.room in
          let places = fits_is f.shape.rules 1 f.row.positionals (positionals_of line.items) f.part.places ∙ room in
          let e = items_spelled (names name f) (proper_names f) line.items [] line.rest once line.spelled in
          record {
            form = ap₂ ◌&&◌ (ap is_plain (sym f.named) ∙ f.part.plain) (sym (are_items-items_from line.rest) ∙ ap is_some e);
            none = faults_are (name ∷ line.rest) ∙ none_empty _ (known_faults (built app) table.top name f.shape f.sub (shape_named name f) line.rest
                ∙ level_is f.shape (names name f) (command name f) (loose name f) line.rest line.items e ∙ ap₂ ◌&&◌ once places);
            rows = new_rows f.shape.rules (names name f) (command name f) 1 line.items;
            sub = subcommand_is (name ∷ line.rest) ∙ known_rows (built app) table.top name f.shape f.sub (shape_named name f) line.rest
                ∙ ap (λ rows. Some (name, rows)) (level_rows f.shape (names name f) (command name f) (loose name f) line.rest line.items e (ap₂ ◌&&◌ once places));
            gives = line.gives ∙ ap (λ g. given g line.items) same ∙ sym (λ i. λ n. rows_give name f line.items once room n i);
          }
        where
          proper_names : (f : Found (built app).subs commands name) → (n : Word) → is_among n (names name f) ≡ true → is_proper n ≡ true
          proper_names f n among = passes_among is_proper n (option_names f.row) f.part.proper (ap (λ ns. is_among n ns) (sym f.part.options) ∙ among)

  -- the arguments give one command and one value for each name
  pub unique_line : (words : List Word) (n m : Word) (g h : Word → Option Word) → IsLineOf commands words n g → IsLineOf commands words m h → (n ≡ m) × (g ≡ h)
  unique_line words n m g h a b =
      let t = line_taken words n g a in
      let u = line_taken words m h b in
      let both_rows : Some (n, t.rows) ≡ Some (m, u.rows) = sym t.sub ∙ u.sub in
      let pair = some_is _ _ both_rows in
      (ap (λ (p : Word × List Row). p.0) pair, t.gives ∙ ap (λ (p : Word × List Row). λ x. first_of x p.1) pair ∙ sym u.gives)
    where
      some_is : (x y : Word × List Row) → Some x ≡ Some y → x ≡ y
      some_is x y e = cc
