-- What clap's walk makes of arguments that are items.
use Rattle.std.proofs.Common.{◌≡◌, ◌∙◌, ◌&&◌, ◌||◌, ◌==◌, not, Bool, true, false, ℕ, List, [], ◌∷◌, Option, Some, None, refl, sym, ap, ap₂, true≢false, cond, fold}
use Rattle.std.specs.Option.{option_map_or}
use Rattle.std.specs.Str.{bytes_eq}
use Rattle.std.proofs.lemmas.Slice.Eq.{bytes_eq-Decides}
use Rattle.clap.specs.Lexer.{long_of, short_of}
use Rattle.clap.specs.Kinds.{Kinds, or_else}
use Rattle.clap.specs.declared.error.kind.ErrorKind.TheVariants.{UnknownArgument, InvalidSubcommand}
use Rattle.clap.specs.Faults.{stray_fault, turn_fault, walk_fault, settle_fault, use_fault}
use Rattle.clap.specs.Simple.{Shape}
use Rattle.clap.specs.Facts.{parser_of_value, unwrap_or_range}
use Rattle.clap.specs.declared.builder.action.ArgAction.TheVariants.{Set}
use Rattle.clap.specs.declared.builder.value_parser.ValueParser.TheVariants as vp
use Rattle.clap.specs.Walk.{Held, Rule, Row, Walk, arg_by_id, arg_by_index, arg_by_long, idle, action_of, most_values, next_position, option as waits_for, reacted, settled, takes_several, takes_values, used, walked}
use Rattle.command_line.specs.Form.{if_plain, items_at, items_from, with_item}
use Rattle.command_line.specs.Words.{Item, Word, is_plain, option, positional}

-- ---- no kinds

abbrev pub no_kinds : Kinds → Bool
no_kinds [] = true
no_kinds (k ∷ ks) = false

pub no_kinds-or_else : (a b : Kinds) → no_kinds (or_else a b) ≡ (no_kinds a && no_kinds b)
no_kinds-or_else [] b = refl
no_kinds-or_else (k ∷ ks) b = refl

-- ---- what an argument is that takes one value

pub record IsUsual (c : List Rule) (a : Rule) : Type 0 where
  pub takes : takes_values a ≡ true
  pub most : most_values a ≡ 1
  pub sets : action_of a ≡ Set
  pub starts : (unwrap_or_range a.range).start_inclusive ≡ 1
  pub any_text : parser_of_value a.parser ≡ vp.String
  pub one : takes_several a ≡ false
  pub plain : a.trailing_var_arg ≡ false
  pub by_id : arg_by_id c a.id ≡ Some a

-- ---- the walk by items

abbrev pub item_passes : List Rule → Bool → Option Rule → Word → List Row → (Rule → Bool) → Bool
item_passes c again found v rows next =
    option_map_or (λ a. no_kinds (use_fault again a (v ∷ []) rows) && next a) found false

-- the items pass, after those that made the rows
abbrev pub items_pass : List Rule → Bool → List Row → ℕ → List Item → Bool
items_pass c again rows p [] = true
items_pass c again rows p (positional v ∷ is) =
    item_passes c again (arg_by_index c p) v rows (λ a. items_pass c again (used a (v ∷ []) rows) (next_position a p) is)
items_pass c again rows p (option n v ∷ is) =
    item_passes c again (arg_by_long c n) v rows (λ a. items_pass c again (used a (v ∷ []) rows) p is)

-- the rows that they make
abbrev pub item_rows : Option Rule → Word → List Row → (Rule → List Row → List Row) → List Row
item_rows found v rows next = option_map_or (λ a. next a (used a (v ∷ []) rows)) found rows

abbrev pub items_rows : List Rule → List Row → ℕ → List Item → List Row
items_rows c rows p [] = rows
items_rows c rows p (positional v ∷ is) = item_rows (arg_by_index c p) v rows (λ a after. items_rows c after (next_position a p) is)
items_rows c rows p (option n v ∷ is) = item_rows (arg_by_long c n) v rows (λ a after. items_rows c after p is)

-- ---- the states of the walk between two arguments

abbrev pub resting : Held → ℕ → Walk
resting h p = record { held = h; waiting = idle; position = p; is_trailing = false; stopped = None }

abbrev pub awaiting : Rule → Held → ℕ → Walk
awaiting a h p = record {
  held = record h { pending = Some (a.id, []) };
  waiting = waits_for a.id;
  position = p;
  is_trailing = false;
  stopped = None;
}

-- ---- tests

pub and_true : (a : Bool) → (a && true) ≡ a
and_true true = refl
and_true false = refl

pub or_false : (a : Bool) → (a || false) ≡ a
or_false true = refl
or_false false = refl

pub and_false : (a : Bool) → (a && false) ≡ false
and_false true = refl
and_false false = refl

pub and_assoc : (a b d : Bool) → ((a && b) && d) ≡ (a && (b && d))
and_assoc true b d = refl
and_assoc false b d = refl

-- ---- arguments

pub not_true : (b : Bool) → not b ≡ true → b ≡ false
not_true true e = absurd (true≢false (sym e))
not_true false e = refl

pub record IsPlainWord (w : Word) : Type 0 where
  pub long : long_of w ≡ None
  pub short : short_of w ≡ None
  pub dashes : bytes_eq w (45 ∷ (45 ∷ [])) ≡ false

pub plain_word : (w : Word) → is_plain w ≡ true → IsPlainWord w
plain_word [] e = absurd (true≢false (sym e))
plain_word (b ∷ bs) e = let f = not_true (b == 45) e in record { long = rw f refl; short = rw f refl; dashes = rw f refl }

pub same_bytes : (w v : Word) → bytes_eq w v ≡ true → w ≡ v
same_bytes w v e = (bytes_eq-Decides w v).0 e

long_dashes : (w : Word) (p : Word × Option Word) → long_of w ≡ Some p → bytes_eq w (45 ∷ (45 ∷ [])) ≡ false
long_dashes w p e = go (bytes_eq w (45 ∷ (45 ∷ []))) refl
  where
    go : (b : Bool) → bytes_eq w (45 ∷ (45 ∷ [])) ≡ b → b ≡ false
    go true f = let same : w ≡ 45 ∷ (45 ∷ []) = same_bytes w _ f in let bad : None ≡ Some p = ap long_of (sym same) ∙ e in cc
    go false f = refl

-- ---- one step of the walk

module _ (c : List Rule) where
  step_joined : (h : Held) (p : ℕ) (w n v : Word) (a : Rule) → long_of w ≡ Some (n, Some v) → arg_by_long c n ≡ Some a → takes_values a ≡ true
      → walked c [] (resting h p) w ≡ resting (reacted c a (v ∷ []) h) p
  unfolding walked
  step_joined h p w n v a is found takes = let no_dashes = long_dashes w _ is in rw (no_dashes, is, found, takes) refl

  step_name : (h : Held) (p : ℕ) (w n : Word) (a : Rule) → long_of w ≡ Some (n, None) → arg_by_long c n ≡ Some a → takes_values a ≡ true
      → walked c [] (resting h p) w ≡ awaiting a (settled c h) p
  unfolding walked
  step_name h p w n a is found takes = let no_dashes = long_dashes w _ is in rw (no_dashes, is, found, takes) refl

  step_value : (h : Held) (p : ℕ) (v : Word) (a : Rule) → is_plain v ≡ true → IsUsual c a
      → walked c [] (awaiting a h p) v ≡ resting (record h { pending = Some (a.id, v ∷ []) }) p
  unfolding walked
  step_value h p v a is usual = let word = plain_word v is in let same : bytes_eq a.id a.id ≡ true = (bytes_eq-Decides a.id a.id).1 refl in rw (word.dashes, word.long, word.short, usual.by_id, same, usual.most) refl

  step_positional : (h : Held) (p : ℕ) (v : Word) (a : Rule) → is_plain v ≡ true → arg_by_index c p ≡ Some a → IsUsual c a
      → walked c [] (resting h p) v ≡ resting (record (settled c h) { pending = Some (a.id, v ∷ []) }) (next_position a p)
  unfolding walked
  step_positional h p v a is found usual = let word = plain_word v is in rw (word.dashes, word.long, word.short, found, usual.one, and_false, usual.sets, usual.plain) refl

-- ---- what a turn refuses

module _ (s : Shape) where
  turn_joined : (h : Held) (p : ℕ) (w n v : Word) (o : Option Rule) → long_of w ≡ Some (n, Some v) → ((a : Rule) → arg_by_long s.rules n ≡ Some a → IsUsual s.rules a) → arg_by_long s.rules n ≡ o
      → no_kinds (turn_fault s [] (resting h p) w)
      ≡ option_map_or (λ a. no_kinds (settle_fault s.rules s.args_override_self h) && no_kinds (use_fault s.args_override_self a (v ∷ []) (settled s.rules h).rows)) o false
  turn_joined h p w n v None is usual e = let no_dashes = long_dashes w _ is in rw (no_dashes, is, e) refl
  turn_joined h p w n v (Some a) is usual e = let no_dashes = long_dashes w _ is in
      rw (no_dashes, is, e, (usual a e).takes) (no_kinds-or_else _ _ ∙ ap (λ b. b && true) (no_kinds-or_else _ _) ∙ and_true _)

  turn_name : (h : Held) (p : ℕ) (w n : Word) (o : Option Rule) → long_of w ≡ Some (n, None) → ((a : Rule) → arg_by_long s.rules n ≡ Some a → IsUsual s.rules a) → arg_by_long s.rules n ≡ o
      → no_kinds (turn_fault s [] (resting h p) w) ≡ option_map_or (λ _. no_kinds (settle_fault s.rules s.args_override_self h)) o false
  turn_name h p w n None is usual e = let no_dashes = long_dashes w _ is in rw (no_dashes, is, e) refl
  turn_name h p w n (Some a) is usual e = let no_dashes = long_dashes w _ is in rw (no_dashes, is, e, (usual a e).takes) (no_kinds-or_else _ _ ∙ and_true _)

  turn_value : (h : Held) (p : ℕ) (v : Word) (a : Rule) → is_plain v ≡ true → no_kinds (turn_fault s [] (awaiting a h p) v) ≡ true
  turn_value h p v a is = let word = plain_word v is in rw (word.dashes, word.long, word.short) refl

  stray : no_kinds (stray_fault s) ≡ false
  stray = stray_at s.is_leaf
    where
      stray_at : (b : Bool) → no_kinds (cond b (UnknownArgument ∷ []) (UnknownArgument ∷ (InvalidSubcommand ∷ []))) ≡ false
      stray_at true = refl
      stray_at false = refl

  turn_positional : (h : Held) (p : ℕ) (v : Word) (o : Option Rule) → is_plain v ≡ true → ((a : Rule) → arg_by_index s.rules p ≡ Some a → IsUsual s.rules a) → arg_by_index s.rules p ≡ o
      → no_kinds (turn_fault s [] (resting h p) v) ≡ option_map_or (λ _. no_kinds (settle_fault s.rules s.args_override_self h)) o false
  turn_positional h p v None is usual e = let word = plain_word v is in rw (word.dashes, word.long, word.short, e) stray
  turn_positional h p v (Some a) is usual e = let word = plain_word v is in rw (word.dashes, word.long, word.short, e, (usual a e).one, and_false) refl

  -- ---- the walk over items

  -- what the walk and its end refuse
  abbrev pub passes : Walk → List Word → Bool
  passes w words = no_kinds (walk_fault s [] w words) && no_kinds (settle_fault s.rules s.args_override_self (fold (walked s.rules []) w words).held)

  passes-step : (w : Walk) (word : Word) (rest : List Word) → passes w (word ∷ rest) ≡ (no_kinds (turn_fault s [] w word) && passes (walked s.rules [] w word) rest)
  unfolding walk_fault
  passes-step w word rest = rw (no_kinds-or_else, and_assoc) refl

  passes-nil : (w : Walk) → passes w [] ≡ no_kinds (settle_fault s.rules s.args_override_self w.held)
  unfolding walk_fault
  passes-nil w = refl

-- ---- the items of arguments, part by part

pub record Takes (v : Word) (i : Item) (after : Option (List Item)) (items : List Item) : Type 0 where
  pub plain : is_plain v ≡ true
  pub more : List Item
  pub rest : after ≡ Some more
  pub items_are : items ≡ i ∷ more

pub takes_item : (v : Word) (i : Item) (after : Option (List Item)) (items : List Item) → if_plain v (with_item i after) ≡ Some items → Takes v i after items
takes_item v i after items e = go (is_plain v) refl after refl e
  where
    go : (b : Bool) → is_plain v ≡ b → (o : Option (List Item)) → after ≡ o → cond b (with_item i o) None ≡ Some items → Takes v i after items
    go true f None g e = cc
    go true f (Some more) g e = record { plain = f; more = more; rest = g; items_are = cc }
    go false f o g e = cc

-- ---- the main lemma

module _ (s : Shape) (usual_long : (n : Word) (a : Rule) → arg_by_long s.rules n ≡ Some a → IsUsual s.rules a)
    (usual_index : (p : ℕ) (a : Rule) → arg_by_index s.rules p ≡ Some a → IsUsual s.rules a) where
  abbrev pub settles : Held → Bool
  settles h = no_kinds (settle_fault s.rules s.args_override_self h)

  pub record Follows (words : List Word) : Type 0 where
    pub resting_passes : (h : Held) (p : ℕ) (items : List Item) → items_from None words ≡ Some items
        → passes s (resting h p) words ≡ (settles h && items_pass s.rules s.args_override_self (settled s.rules h).rows p items)
    pub awaiting_passes : (h : Held) (p : ℕ) (n : Word) (a : Rule) (items : List Item) → arg_by_long s.rules n ≡ Some a → items_from (Some n) words ≡ Some items
        → passes s (awaiting a h p) words ≡ items_pass s.rules s.args_override_self h.rows p items

  -- a use that waits, and then the rest of the arguments
  after_use : (h : Held) (p : ℕ) (v : Word) (a : Rule) (more : List Item) → IsUsual s.rules a
      → (settles (record h { pending = Some (a.id, v ∷ []) }) && items_pass s.rules s.args_override_self (settled s.rules (record h { pending = Some (a.id, v ∷ []) })).rows p more)
      ≡ (no_kinds (use_fault s.args_override_self a (v ∷ []) h.rows) && items_pass s.rules s.args_override_self (used a (v ∷ []) h.rows) p more)
  after_use h p v a more usual = rw (usual.by_id) refl

  -- an option with an unknown name is refused, whatever follows it
  unknown_fails : (n : Word) (rest : List Word) (items : List Item) (p : ℕ) (rows : List Row) → arg_by_long s.rules n ≡ None → items_from (Some n) rest ≡ Some items
      → items_pass s.rules s.args_override_self rows p items ≡ false
  unknown_fails n [] items p rows found e = cc
  unknown_fails n (v ∷ rest) items p rows found e = let t = takes_item v (option n v) (items_from None rest) items e in ap (λ x. items_pass s.rules s.args_override_self rows p x) t.items_are ∙ rw found refl

  pub follows : (words : List Word) → Follows words
  follows [] = record {
    resting_passes = λ h p items e. let none : items ≡ [] = cc in passes-nil s (resting h p) ∙ sym (rw none (and_true (settles h)));
    awaiting_passes = λ h p n a items found e. cc;
  }
  follows (w ∷ rest) = go (follows rest)
    where
      go : Follows rest → Follows (w ∷ rest)
      go ih = record {
        resting_passes = λ h p items e. at h p items (long_of w) refl e;
        awaiting_passes = λ h p n a items found e. waits h p n a items found (takes_item w (option n w) (items_from None rest) items e);
      }
        where
          waits : (h : Held) (p : ℕ) (n : Word) (a : Rule) (items : List Item) → arg_by_long s.rules n ≡ Some a → Takes w (option n w) (items_from None rest) items
              → passes s (awaiting a h p) (w ∷ rest) ≡ items_pass s.rules s.args_override_self h.rows p items
          waits h p n a items found t =
              passes-step s (awaiting a h p) w rest
              ∙ ap (λ b. b && passes s (walked s.rules [] (awaiting a h p) w) rest) (turn_value s h p w a t.plain)
              ∙ ap (λ z. passes s z rest) (step_value s.rules h p w a t.plain (usual_long n a found))
              ∙ ih.resting_passes _ p t.more t.rest
              ∙ after_use h p w a t.more (usual_long n a found)
              ∙ sym (ap (λ x. items_pass s.rules s.args_override_self h.rows p x) t.items_are ∙ rw found refl)

          at : (h : Held) (p : ℕ) (items : List Item) (o : Option (Word × Option Word)) → long_of w ≡ o
              → items_at w o (items_from None rest) (λ n. items_from (Some n) rest) ≡ Some items
              → passes s (resting h p) (w ∷ rest) ≡ (settles h && items_pass s.rules s.args_override_self (settled s.rules h).rows p items)
          at h p items None is e = positional_at (arg_by_index s.rules p) refl
            where
              t : Takes w (positional w) (items_from None rest) items
              t = takes_item w (positional w) (items_from None rest) items e

              by_items : {y : List Item} → items ≡ y → (settles h && items_pass s.rules s.args_override_self (settled s.rules h).rows p items)
                  ≡ (settles h && items_pass s.rules s.args_override_self (settled s.rules h).rows p y)
              by_items e' = ap (λ x. settles h && items_pass s.rules s.args_override_self (settled s.rules h).rows p x) e'

              positional_at : (o : Option Rule) → arg_by_index s.rules p ≡ o
                  → passes s (resting h p) (w ∷ rest) ≡ (settles h && items_pass s.rules s.args_override_self (settled s.rules h).rows p items)
              positional_at None found =
                  passes-step s (resting h p) w rest
                  ∙ ap (λ b. b && passes s (walked s.rules [] (resting h p) w) rest) (turn_positional s h p w None t.plain (usual_index p) found)
                  ∙ sym (by_items t.items_are ∙ rw found (and_false (settles h)))
              positional_at (Some a) found =
                  passes-step s (resting h p) w rest
                  ∙ ap₂ ◌&&◌ (turn_positional s h p w (Some a) t.plain (usual_index p) found)
                  (ap (λ z. passes s z rest) (step_positional s.rules h p w a t.plain found (usual_index p a found))
                  ∙ ih.resting_passes _ (next_position a p) t.more t.rest
                  ∙ after_use (settled s.rules h) (next_position a p) w a t.more (usual_index p a found))
                  ∙ sym (by_items t.items_are ∙ rw found refl)
          at h p items (Some (n, None)) is e = named_at (arg_by_long s.rules n) refl
            where
              named_at : (o : Option Rule) → arg_by_long s.rules n ≡ o
                  → passes s (resting h p) (w ∷ rest) ≡ (settles h && items_pass s.rules s.args_override_self (settled s.rules h).rows p items)
              named_at None found =
                  passes-step s (resting h p) w rest
                  ∙ ap (λ b. b && passes s (walked s.rules [] (resting h p) w) rest) (turn_name s h p w n None is (usual_long n) found)
                  ∙ sym (ap (λ b. settles h && b) (unknown_fails n rest items p (settled s.rules h).rows found e) ∙ and_false (settles h))
              named_at (Some a) found =
                  passes-step s (resting h p) w rest
                  ∙ ap₂ ◌&&◌ (turn_name s h p w n (Some a) is (usual_long n) found)
                  (ap (λ z. passes s z rest) (step_name s.rules h p w n a is found (usual_long n a found).takes)
                  ∙ ih.awaiting_passes (settled s.rules h) p n a items found e)
          at h p items (Some (n, Some v)) is e = joined_at (arg_by_long s.rules n) refl
            where
              t : Takes v (option n v) (items_from None rest) items
              t = takes_item v (option n v) (items_from None rest) items e

              by_items : {y : List Item} → items ≡ y → (settles h && items_pass s.rules s.args_override_self (settled s.rules h).rows p items)
                  ≡ (settles h && items_pass s.rules s.args_override_self (settled s.rules h).rows p y)
              by_items e' = ap (λ x. settles h && items_pass s.rules s.args_override_self (settled s.rules h).rows p x) e'

              joined_at : (o : Option Rule) → arg_by_long s.rules n ≡ o
                  → passes s (resting h p) (w ∷ rest) ≡ (settles h && items_pass s.rules s.args_override_self (settled s.rules h).rows p items)
              joined_at None found =
                  passes-step s (resting h p) w rest
                  ∙ ap (λ b. b && passes s (walked s.rules [] (resting h p) w) rest) (turn_joined s h p w n v None is (usual_long n) found)
                  ∙ sym (by_items t.items_are ∙ rw found (and_false (settles h)))
              joined_at (Some a) found =
                  passes-step s (resting h p) w rest
                  ∙ ap₂ ◌&&◌ (turn_joined s h p w n v (Some a) is (usual_long n) found)
                  (ap (λ z. passes s z rest) (step_joined s.rules h p w n v a is found (usual_long n a found).takes)
                  ∙ ih.resting_passes _ p t.more t.rest)
                  ∙ and_assoc (settles h) _ _
                  ∙ sym (by_items t.items_are ∙ rw found refl)

  -- ---- the rows that the walk makes

  abbrev pub rows_at_end : Walk → List Word → List Row
  rows_at_end w words = (settled s.rules (fold (walked s.rules []) w words).held).rows

  pub record Makes (words : List Word) : Type 0 where
    pub resting_rows : (h : Held) (p : ℕ) (items : List Item) → items_from None words ≡ Some items
        → items_pass s.rules s.args_override_self (settled s.rules h).rows p items ≡ true
        → rows_at_end (resting h p) words ≡ items_rows s.rules (settled s.rules h).rows p items
    pub awaiting_rows : (h : Held) (p : ℕ) (n : Word) (a : Rule) (items : List Item) → arg_by_long s.rules n ≡ Some a → items_from (Some n) words ≡ Some items
        → items_pass s.rules s.args_override_self h.rows p items ≡ true
        → rows_at_end (awaiting a h p) words ≡ items_rows s.rules h.rows p items

  settled_use : (h : Held) (v : Word) (a : Rule) → IsUsual s.rules a → (settled s.rules (record h { pending = Some (a.id, v ∷ []) })).rows ≡ used a (v ∷ []) h.rows
  settled_use h v a usual = rw (usual.by_id) refl

  -- a rest that passes makes its rows, from rows that are equal
  from_rows : (h : Held) (p : ℕ) (rows : List Row) (more : List Item) (words : List Word) → Makes words → (settled s.rules h).rows ≡ rows → items_from None words ≡ Some more
      → items_pass s.rules s.args_override_self rows p more ≡ true → rows_at_end (resting h p) words ≡ items_rows s.rules rows p more
  from_rows h p rows more words ih same e passes_it =
      ih.resting_rows h p more e (ap (λ r. items_pass s.rules s.args_override_self r p more) same ∙ passes_it)
      ∙ ap (λ r. items_rows s.rules r p more) same

  both_true : (a b : Bool) → (a && b) ≡ true → b ≡ true
  both_true true b e = e
  both_true false b e = absurd (true≢false (sym e))

  pub makes : (words : List Word) → Makes words
  makes [] = record {
    resting_rows = λ h p items e passes_it. let none : items ≡ [] = cc in ap (λ x. items_rows s.rules (settled s.rules h).rows p x) (sym none);
    awaiting_rows = λ h p n a items found e passes_it. cc;
  }
  makes (w ∷ rest) = go (makes rest)
    where
      go : Makes rest → Makes (w ∷ rest)
      go ih = record {
        resting_rows = λ h p items e ok. at h p items (long_of w) refl e ok;
        awaiting_rows = λ h p n a items found e ok. waits h p n a items found (takes_item w (option n w) (items_from None rest) items e) ok;
      }
        where
          waits : (h : Held) (p : ℕ) (n : Word) (a : Rule) (items : List Item) → arg_by_long s.rules n ≡ Some a → Takes w (option n w) (items_from None rest) items
              → items_pass s.rules s.args_override_self h.rows p items ≡ true → rows_at_end (awaiting a h p) (w ∷ rest) ≡ items_rows s.rules h.rows p items
          waits h p n a items found t ok =
              ap (λ z. rows_at_end z rest) (step_value s.rules h p w a t.plain (usual_long n a found))
              ∙ from_rows _ p (used a (w ∷ []) h.rows) t.more rest ih (settled_use h w a (usual_long n a found)) t.rest
              (both_true (no_kinds (use_fault s.args_override_self a (w ∷ []) h.rows)) _ (rw found at (sym (ap (λ x. items_pass s.rules s.args_override_self h.rows p x) t.items_are) ∙ ok)))
              ∙ sym (ap (λ x. items_rows s.rules h.rows p x) t.items_are ∙ rw found refl)

          at : (h : Held) (p : ℕ) (items : List Item) (o : Option (Word × Option Word)) → long_of w ≡ o
              → items_at w o (items_from None rest) (λ n. items_from (Some n) rest) ≡ Some items
              → items_pass s.rules s.args_override_self (settled s.rules h).rows p items ≡ true
              → rows_at_end (resting h p) (w ∷ rest) ≡ items_rows s.rules (settled s.rules h).rows p items
          at h p items None is e ok = positional_at (arg_by_index s.rules p) refl
            where
              t : Takes w (positional w) (items_from None rest) items
              t = takes_item w (positional w) (items_from None rest) items e

              passes_it : items_pass s.rules s.args_override_self (settled s.rules h).rows p (positional w ∷ t.more) ≡ true
              passes_it = sym (ap (λ x. items_pass s.rules s.args_override_self (settled s.rules h).rows p x) t.items_are) ∙ ok

              positional_at : (o : Option Rule) → arg_by_index s.rules p ≡ o → rows_at_end (resting h p) (w ∷ rest) ≡ items_rows s.rules (settled s.rules h).rows p items
              positional_at None found = absurd (true≢false (sym (rw found at passes_it)))
              positional_at (Some a) found =
                  ap (λ z. rows_at_end z rest) (step_positional s.rules h p w a t.plain found (usual_index p a found))
                  ∙ from_rows _ (next_position a p) (used a (w ∷ []) (settled s.rules h).rows) t.more rest ih (settled_use (settled s.rules h) w a (usual_index p a found)) t.rest
                  (both_true (no_kinds (use_fault s.args_override_self a (w ∷ []) (settled s.rules h).rows)) _ (rw found at passes_it))
                  ∙ sym (ap (λ x. items_rows s.rules (settled s.rules h).rows p x) t.items_are ∙ rw found refl)
          at h p items (Some (n, None)) is e ok = named_at (arg_by_long s.rules n) refl
            where
              named_at : (o : Option Rule) → arg_by_long s.rules n ≡ o → rows_at_end (resting h p) (w ∷ rest) ≡ items_rows s.rules (settled s.rules h).rows p items
              named_at None found = absurd (true≢false (sym ok ∙ unknown_fails n rest items p (settled s.rules h).rows found e))
              named_at (Some a) found =
                  ap (λ z. rows_at_end z rest) (step_name s.rules h p w n a is found (usual_long n a found).takes)
                  ∙ ih.awaiting_rows (settled s.rules h) p n a items found e ok
          at h p items (Some (n, Some v)) is e ok = joined_at (arg_by_long s.rules n) refl
            where
              t : Takes v (option n v) (items_from None rest) items
              t = takes_item v (option n v) (items_from None rest) items e

              passes_it : items_pass s.rules s.args_override_self (settled s.rules h).rows p (option n v ∷ t.more) ≡ true
              passes_it = sym (ap (λ x. items_pass s.rules s.args_override_self (settled s.rules h).rows p x) t.items_are) ∙ ok

              joined_at : (o : Option Rule) → arg_by_long s.rules n ≡ o → rows_at_end (resting h p) (w ∷ rest) ≡ items_rows s.rules (settled s.rules h).rows p items
              joined_at None found = absurd (true≢false (sym (rw found at passes_it)))
              joined_at (Some a) found =
                  ap (λ z. rows_at_end z rest) (step_joined s.rules h p w n v a is found (usual_long n a found).takes)
                  ∙ from_rows _ p (used a (v ∷ []) (settled s.rules h).rows) t.more rest ih refl t.rest
                  (both_true (no_kinds (use_fault s.args_override_self a (v ∷ []) (settled s.rules h).rows)) _ (rw found at passes_it))
                  ∙ sym (ap (λ x. items_rows s.rules (settled s.rules h).rows p x) t.items_are ∙ rw found refl)
