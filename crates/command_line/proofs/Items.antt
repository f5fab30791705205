-- What clap makes of items, in the arguments of a command line.
use Rattle.std.proofs.Common.{◌≡◌, ◌∙◌, ◌&&◌, ◌||◌, ◌<◌, ◌≤◌, ◌+◌, not, Bool, true, false, ℕ, List, [], ◌∷◌, ◌++◌, Option, Some, None, refl, sym, ap, ap₂, true≢false, cond, is_some, arith, append_assoc}
use Rattle.std.specs.Prelude.{option_and_then, slice_get, find}
use Rattle.std.specs.Option.{option_map_or}
use Rattle.std.specs.Str.{bytes_eq}
use Rattle.clap.specs.Lexer.{usize_max}
use Rattle.clap.specs.Faults.{use_fault}
use Rattle.clap.specs.Kinds.{or_else}
use Rattle.clap.specs.declared.error.kind.ErrorKind.TheVariants.{ArgumentConflict}
use Rattle.clap.specs.Walk.{Row, Rule, arg_by_id, arg_by_index, arg_by_long, at_row, first_of, has_row, more_values, next_position, reading_by, used, with_values}
use Rattle.clap.specs.declared.parser.matches.ValueSource.TheVariants.{CommandLine}
use Rattle.command_line.specs.Words.{Item, Word, has_each_once, is_among, option, positional, positionals_of, value_of}
use Rattle.clap.proofs.WalkLemmas.{both}
use Rattle.command_line.proofs.Walks.{IsUsual, not_true, and_false, items_pass, items_rows, no_kinds, same_bytes}

or_assoc : (a b d : Bool) → ((a || b) || d) ≡ (a || (b || d))
or_assoc true b d = refl
or_assoc false b d = refl

-- ---- rows

has_row-append : (id : Word) (rows : List Row) (r : Row) → has_row id (rows ++ r ∷ []) ≡ (has_row id rows || bytes_eq r.id id)
has_row-append id [] r = or_false (bytes_eq r.id id)
  where
    or_false : (b : Bool) → (b || false) ≡ b
    or_false true = refl
    or_false false = refl
has_row-append id (x ∷ xs) r = ap (λ b. bytes_eq x.id id || b) (has_row-append id xs r) ∙ sym (or_assoc (bytes_eq x.id id) _ _)

at_row-missing : (id : Word) (change : Row → List Row) (missing rows : List Row) → has_row id rows ≡ false → at_row id change missing rows ≡ rows ++ missing
at_row-missing id change missing [] e = refl
at_row-missing id change missing (x ∷ xs) e = go (bytes_eq x.id id) refl (at_row-missing id change missing xs)
  where
    go : (b : Bool) → bytes_eq x.id id ≡ b → (has_row id xs ≡ false → at_row id change missing xs ≡ xs ++ missing) → at_row id change missing (x ∷ xs) ≡ (x ∷ xs) ++ missing
    go true f ih = absurd (true≢false (rw f at e))
    go false f ih = rw f (ap (λ rs. x ∷ rs) (ih (rw f at e)))

abbrev pub new_row : Rule → Word → Row
new_row a v = record { id = a.id; values = v ∷ []; count = None; source = Some CommandLine; reading = reading_by a }

append_nil : (rows : List Row) → rows ++ [] ≡ rows
append_nil [] = refl
append_nil (x ∷ xs) = ap (λ rs. x ∷ rs) (append_nil xs)

module _ (c : List Rule) where
  use_passes : (a : Rule) (v : Word) (rows : List Row) → IsUsual c a → no_kinds (use_fault false a (v ∷ []) rows) ≡ not (has_row a.id rows)
  use_passes a v rows usual = rw (usual.starts, usual.most, usual.sets, usual.any_text)
      (elim (has_row a.id rows) as (λ b. no_kinds (or_else (cond (b && not false) (ArgumentConflict ∷ []) []) []) ≡ not b) [ true ↦ refl | false ↦ refl ])

  use_rows : (a : Rule) (v : Word) (rows : List Row) → IsUsual c a → has_row a.id rows ≡ false → used a (v ∷ []) rows ≡ rows ++ new_row a v ∷ []
  use_rows a v rows usual none =
      rw usual.sets (ap (with_values a.id (reading_by a) CommandLine (v ∷ [])) (at_row-missing a.id (λ _. []) [] rows none ∙ append_nil rows)
      ∙ at_row-missing a.id (more_values CommandLine (v ∷ [])) (new_row a v ∷ []) rows none)

-- ---- a command with these options, each named as its id

pub record IsCommand (c : List Rule) (names : List Word) : Type 0 where
  pub usual_long : (n : Word) (a : Rule) → arg_by_long c n ≡ Some a → IsUsual c a
  pub usual_index : (p : ℕ) (a : Rule) → arg_by_index c p ≡ Some a → IsUsual c a
  pub names_are : (n : Word) → is_some (arg_by_long c n) ≡ is_among n names
  pub by_name : (n : Word) (a : Rule) → arg_by_long c n ≡ Some a → a.id ≡ n
  pub unnamed : (p : ℕ) (a : Rule) → arg_by_index c p ≡ Some a → arg_by_long c a.id ≡ None
  pub index : (p : ℕ) (a : Rule) → arg_by_index c p ≡ Some a → a.index ≡ Some p
  pub small : (p : ℕ) (a : Rule) → arg_by_index c p ≡ Some a → p < usize_max

-- there is a place for each of the positionals, from p on
abbrev pub fits : List Rule → ℕ → List Word → Bool
fits c p [] = true
fits c p (v ∷ vs) = is_some (arg_by_index c p) && fits c (p + 1) vs

guarded : (b x y f : Bool) → (b ≡ false → x ≡ (y && f)) → (not b && x) ≡ ((not b && y) && f)
guarded true x y f h = refl
guarded false x y f h = h refl

module _ (c : List Rule) (names : List Word) (command : IsCommand c names) where
  -- the rows are those of the used names and of the places below p
  pub record Stands (rows : List Row) (p : ℕ) (before : List Word) : Type 0 where
    pub named : (n : Word) (a : Rule) → arg_by_long c n ≡ Some a → has_row n rows ≡ is_among n before
    pub free : (q : ℕ) (a : Rule) → p ≤ q → arg_by_index c q ≡ Some a → has_row a.id rows ≡ false

  pub differs : (x y : Word) → (x ≡ y → ⊥) → bytes_eq x y ≡ false
  differs x y ne = go (bytes_eq x y) refl
    where
      go : (b : Bool) → bytes_eq x y ≡ b → b ≡ false
      go true e = absurd (ne (same_bytes x y e))
      go false e = refl

  some_is : (x y : Rule) → Some x ≡ Some y → x ≡ y
  some_is x y e = cc

  some_none : (a : Rule) → Some a ≡ None → ⊥
  some_none a e = cc

  -- an option's name is no positional's id
  apart : (n : Word) (a : Rule) (q : ℕ) (d : Rule) → arg_by_long c n ≡ Some a → arg_by_index c q ≡ Some d → d.id ≡ n → ⊥
  apart n a q d found at same = some_none a (sym found ∙ ap (arg_by_long c) (sym same) ∙ command.unnamed q d at)

  after_option : (rows : List Row) (p : ℕ) (before : List Word) (n v : Word) (a : Rule) → Stands rows p before → arg_by_long c n ≡ Some a
      → Stands (rows ++ new_row a v ∷ []) p (n ∷ before)
  after_option rows p before n v a st found = record {
    named = λ m d named. has_row-append m rows (new_row a v) ∙ ap₂ ◌||◌ (st.named m d named) (ap (λ t. bytes_eq t m) (command.by_name n a found)) ∙ or_swap (is_among m before) (bytes_eq n m);
    free = λ q d le at. has_row-append d.id rows (new_row a v)
        ∙ ap₂ ◌||◌ (st.free q d le at) (differs a.id d.id (λ e. apart n a q d found at (sym e ∙ command.by_name n a found)));
  }
    where
      or_swap : (x y : Bool) → (x || y) ≡ (y || x)
      or_swap true true = refl
      or_swap true false = refl
      or_swap false true = refl
      or_swap false false = refl

  after_positional : (rows : List Row) (p : ℕ) (before : List Word) (v : Word) (a : Rule) → Stands rows p before → arg_by_index c p ≡ Some a
      → Stands (rows ++ new_row a v ∷ []) (p + 1) before
  after_positional rows p before v a st at = record {
    named = λ m d named. has_row-append m rows (new_row a v) ∙ ap₂ ◌||◌ (st.named m d named) (differs a.id m (apart m d p a named at)) ∙ or_false _;
    free = λ q d le here. has_row-append d.id rows (new_row a v)
        ∙ ap₂ ◌||◌ (st.free q d (omega arith) here) (differs a.id d.id (λ e.
        let same : a ≡ d = some_is a d (sym (command.usual_index p a at).by_id ∙ ap (arg_by_id c) e ∙ (command.usual_index q d here).by_id) in
        let place : Some p ≡ Some q = sym (command.index p a at) ∙ ap (λ (r : Rule). r.index) same ∙ command.index q d here in
        let equal : p ≡ q = cc in absurd (omega arith)));
  }
    where
      or_false : (b : Bool) → (b || false) ≡ b
      or_false true = refl
      or_false false = refl

  next_is : (p : ℕ) (a : Rule) → arg_by_index c p ≡ Some a → next_position a p ≡ p + 1
  next_is p a at = let usual = command.usual_index p a at in let small = command.small p a at in rw (usual.one, usual.sets) (omega arith)

  -- the items pass exactly where each option is known and stands once, and each positional has a place
  pub items_pass_is : (items : List Item) (rows : List Row) (p : ℕ) (before : List Word) → Stands rows p before
      → items_pass c false rows p items ≡ (has_each_once names before items && fits c p (positionals_of items))
  items_pass_is [] rows p before st = refl
  items_pass_is (positional v ∷ items) rows p before st = go (arg_by_index c p) refl (items_pass_is items)
    where
      go : (o : Option Rule) → arg_by_index c p ≡ o
          → ((rows : List Row) (p : ℕ) (before : List Word) → Stands rows p before → items_pass c false rows p items ≡ (has_each_once names before items && fits c p (positionals_of items)))
          → items_pass c false rows p (positional v ∷ items) ≡ (has_each_once names before items && (is_some (arg_by_index c p) && fits c (p + 1) (positionals_of items)))
      go None at ih = rw at (sym (and_false (has_each_once names before items)))
      go (Some a) at ih =
          let usual = command.usual_index p a at in
          let free = st.free p a (omega arith) at in
          rw at (ap₂ ◌&&◌ (use_passes c a v rows usual ∙ ap not free)
          (ap₂ (λ r q. items_pass c false r q items) (use_rows c a v rows usual free) (next_is p a at)
          ∙ ih (rows ++ new_row a v ∷ []) (p + 1) before (after_positional rows p before v a st at)))
  items_pass_is (option n v ∷ items) rows p before st = go (arg_by_long c n) refl (items_pass_is items)
    where
      go : (o : Option Rule) → arg_by_long c n ≡ o
          → ((rows : List Row) (p : ℕ) (before : List Word) → Stands rows p before → items_pass c false rows p items ≡ (has_each_once names before items && fits c p (positionals_of items)))
          → items_pass c false rows p (option n v ∷ items)
          ≡ ((is_among n names && (not (is_among n before) && has_each_once names (n ∷ before) items)) && fits c p (positionals_of items))
      go None found ih = let unknown : is_among n names ≡ false = sym (command.names_are n) ∙ ap is_some found in rw (found, unknown) refl
      go (Some a) found ih =
          let usual = command.usual_long n a found in
          let known : is_among n names ≡ true = sym (command.names_are n) ∙ ap is_some found in
          let row : has_row a.id rows ≡ is_among n before = ap (λ t. has_row t rows) (command.by_name n a found) ∙ st.named n a found in
          rw (found, known) (ap (λ b. b && items_pass c false (used a (v ∷ []) rows) p items) (use_passes c a v rows usual ∙ ap not row)
          ∙ guarded (is_among n before) (items_pass c false (used a (v ∷ []) rows) p items) (has_each_once names (n ∷ before) items) (fits c p (positionals_of items))
          (λ fresh. ap (λ r. items_pass c false r p items) (use_rows c a v rows usual (row ∙ fresh)) ∙ ih (rows ++ new_row a v ∷ []) p (n ∷ before) (after_option rows p before n v a st found)))

  -- ---- the values that the rows hold

  abbrev pub new_rows : ℕ → List Item → List Row
  new_rows p [] = []
  new_rows p (positional v ∷ items) = option_map_or (λ a. new_row a v ∷ new_rows (p + 1) items) (arg_by_index c p) []
  new_rows p (option n v ∷ items) = option_map_or (λ a. new_row a v ∷ new_rows p items) (arg_by_long c n) []

  pub rows_are : (items : List Item) (rows : List Row) (p : ℕ) (before : List Word) → Stands rows p before → items_pass c false rows p items ≡ true
      → items_rows c rows p items ≡ rows ++ new_rows p items
  rows_are [] rows p before st ok = sym (append_nil rows)
  rows_are (positional v ∷ items) rows p before st ok = go (arg_by_index c p) refl (rows_are items)
    where
      go : (o : Option Rule) → arg_by_index c p ≡ o
          → ((rows : List Row) (p : ℕ) (before : List Word) → Stands rows p before → items_pass c false rows p items ≡ true → items_rows c rows p items ≡ rows ++ new_rows p items)
          → items_rows c rows p (positional v ∷ items) ≡ rows ++ new_rows p (positional v ∷ items)
      go None at ih = absurd (true≢false (sym (rw at at ok)))
      go (Some a) at ih =
          let usual = command.usual_index p a at in
          let made = use_rows c a v rows usual (st.free p a (omega arith) at) in
          let next = next_is p a at in
          let rest : items_pass c false (used a (v ∷ []) rows) (next_position a p) items ≡ true = (both (no_kinds (use_fault false a (v ∷ []) rows)) _ (rw at at ok)).1 in
          rw at (ap₂ (λ r q. items_rows c r q items) made next
          ∙ ih (rows ++ new_row a v ∷ []) (p + 1) before (after_positional rows p before v a st at) (sym (ap₂ (λ r q. items_pass c false r q items) made next) ∙ rest)
          ∙ append_assoc rows (new_row a v ∷ []) (new_rows (p + 1) items))
  rows_are (option n v ∷ items) rows p before st ok = go (arg_by_long c n) refl (rows_are items)
    where
      go : (o : Option Rule) → arg_by_long c n ≡ o
          → ((rows : List Row) (p : ℕ) (before : List Word) → Stands rows p before → items_pass c false rows p items ≡ true → items_rows c rows p items ≡ rows ++ new_rows p items)
          → items_rows c rows p (option n v ∷ items) ≡ rows ++ new_rows p (option n v ∷ items)
      go None found ih = absurd (true≢false (sym (rw found at ok)))
      go (Some a) found ih =
          let usual = command.usual_long n a found in
          let parts = both (no_kinds (use_fault false a (v ∷ []) rows)) (items_pass c false (used a (v ∷ []) rows) p items) (rw found at ok) in
          let fresh : has_row a.id rows ≡ false = not_true (has_row a.id rows) (sym (use_passes c a v rows usual) ∙ parts.0) in
          let made = use_rows c a v rows usual fresh in
          rw found (ap (λ r. items_rows c r p items) made
          ∙ ih (rows ++ new_row a v ∷ []) p (n ∷ before) (after_option rows p before n v a st found) (sym (ap (λ r. items_pass c false r p items) made) ∙ parts.1)
          ∙ append_assoc rows (new_row a v ∷ []) (new_rows p items))

  -- an option's row has its value
  pub option_value : (items : List Item) (p : ℕ) (before : List Word) (n : Word) (d : Rule) → arg_by_long c n ≡ Some d
      → has_each_once names before items ≡ true → fits c p (positionals_of items) ≡ true → first_of n (new_rows p items) ≡ value_of n items
  option_value [] p before n d known once places = refl
  option_value (positional v ∷ items) p before n d known once places = go (arg_by_index c p) refl (option_value items (p + 1) before n d known once)
    where
      go : (o : Option Rule) → arg_by_index c p ≡ o → (fits c (p + 1) (positionals_of items) ≡ true → first_of n (new_rows (p + 1) items) ≡ value_of n items)
          → first_of n (new_rows p (positional v ∷ items)) ≡ value_of n items
      go None at ih = absurd (true≢false (sym (rw at at places)))
      go (Some a) at ih = let other : bytes_eq a.id n ≡ false = differs a.id n (apart n d p a known at) in rw (at, other) (ih (rw at at places))
  option_value (option m v ∷ items) p before n d known once places = go (arg_by_long c m) refl (option_value items p (m ∷ before) n d known (both _ _ (both (is_among m names) _ once).1).1 places)
    where
      go : (o : Option Rule) → arg_by_long c m ≡ o → first_of n (new_rows p items) ≡ value_of n items → first_of n (new_rows p (option m v ∷ items)) ≡ value_of n (option m v ∷ items)
      go None found ih = absurd (true≢false (sym (both (is_among m names) _ once).0 ∙ sym (command.names_are m) ∙ ap is_some found))
      go (Some a) found ih = let same : bytes_eq a.id n ≡ bytes_eq m n = ap (λ t. bytes_eq t n) (command.by_name m a found) in rw (found, same) (by_test (bytes_eq m n) ih)
        where
          by_test : (b : Bool) → first_of n (new_rows p items) ≡ value_of n items
              → option_and_then (λ (r : Row). slice_get r.values 0) (cond b (Some (new_row a v)) (find (λ r. bytes_eq r.id n) (new_rows p items))) ≡ cond b (Some v) (value_of n items)
          by_test true ih = refl
          by_test false ih = ih
