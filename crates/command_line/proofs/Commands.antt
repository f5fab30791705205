-- A test of a command's arguments that computes, and what it gives.
use Rattle.std.proofs.Common.{◌≡◌, ◌∙◌, ◌&&◌, ◌||◌, ◌==◌, ◌<◌, not, Bool, true, false, ℕ, List, [], ◌∷◌, Option, Some, None, refl, sym, ap, true≢false, cond, is_some, arith, nat_lt, ltb-true, length, suc}
use Rattle.std.specs.Prelude.{find}
use Rattle.std.specs.Option.{option_map_or}
use Rattle.std.specs.List.{list_all}
use Rattle.std.specs.Str.{bytes_eq}
use Rattle.std.proofs.lemmas.Bool.Decides.{nat_tests}
use Rattle.std.proofs.lemmas.Slice.Eq.{bytes_eq-Decides}
use Rattle.clap.specs.Lexer.{usize_max}
use Rattle.clap.specs.Facts.{parser_of_value, unwrap_or_range}
use Rattle.clap.specs.Walk.{Rule, action_of, arg_by_id, arg_by_long, has_long, is_empty, most_values, takes_several, takes_values}
use Rattle.clap.specs.declared.builder.action.ArgAction.{ArgAction}
use Rattle.clap.specs.declared.builder.action.ArgAction.TheVariants.{Set}
use Rattle.clap.specs.declared.builder.value_parser.ValueParser.{ValueParser}
use Rattle.clap.specs.declared.builder.value_parser.ValueParser.TheVariants as vp
use Rattle.clap.proofs.WalkLemmas.{both}
use Rattle.command_line.specs.Words.{Word, is_among}
use Rattle.command_line.specs.Table.{is_apart, is_command, is_placed, is_set, is_string, is_usual, names_in}
use Rattle.command_line.proofs.Walks.{IsUsual, and_false, or_false, not_true, same_bytes}
use Rattle.command_line.proofs.Items.{IsCommand}

-- ---- what is found

found_passes : (p q : Rule → Bool) (c : List Rule) (a : Rule) → find p c ≡ Some a → list_all q c ≡ true → (p a ≡ true) × (q a ≡ true)
found_passes p q [] a found all = cc
found_passes p q (x ∷ xs) a found all = go (p x) refl (found_passes p q xs a)
  where
    go : (b : Bool) → p x ≡ b → (find p xs ≡ Some a → list_all q xs ≡ true → (p a ≡ true) × (q a ≡ true)) → (p a ≡ true) × (q a ≡ true)
    go true e ih =
        let here : Some x ≡ Some a = rw e at found in
        let same : x ≡ a = cc in
        (ap p (sym same) ∙ e, ap q (sym same) ∙ (both (q x) _ all).0)
    go false e ih = ih (rw e at found) (both (q x) _ all).1

found_by_id : (p : Rule → Bool) (c : List Rule) (a : Rule) → find p c ≡ Some a → is_apart c ≡ true → arg_by_id c a.id ≡ Some a
found_by_id p [] a found apart = cc
found_by_id p (x ∷ xs) a found apart = go (p x) refl (found_by_id p xs a)
  where
    go : (b : Bool) → p x ≡ b → (find p xs ≡ Some a → is_apart xs ≡ true → arg_by_id xs a.id ≡ Some a) → arg_by_id (x ∷ xs) a.id ≡ Some a
    go true e ih =
        let here : Some x ≡ Some a = rw e at found in
        let same : x ≡ a = cc in
        let own : bytes_eq x.id a.id ≡ true = (bytes_eq-Decides x.id a.id).1 (ap (λ (r : Rule). r.id) same) in
        rw own here
    go false e ih =
        let later : find p xs ≡ Some a = rw e at found in
        let parts = both (list_all (λ b. not (bytes_eq x.id b.id)) xs) (is_apart xs) apart in
        let other : bytes_eq x.id a.id ≡ false = not_true _ (found_passes p (λ b. not (bytes_eq x.id b.id)) xs a later parts.0).1 in
        rw other (ih later parts.1)

equal : (n m : ℕ) → (n == m) ≡ true → n ≡ m
equal n m e = grind (arith, nat_tests)

set_is : (x : ArgAction) → is_set x ≡ true → x ≡ Set
set_is Set e = refl
set_is _ e = absurd (true≢false (sym e))

string_is : (p : ValueParser) → is_string p ≡ true → p ≡ vp.String
string_is vp.String e = refl
string_is _ e = absurd (true≢false (sym e))

usual_from : (p : Rule → Bool) (c : List Rule) (a : Rule) → is_command c ≡ true → find p c ≡ Some a → IsUsual c a
usual_from p c a test found =
    let parts = both (list_all is_usual c) _ test in
    let u = both (takes_values a) _ (found_passes p is_usual c a found parts.0).1 in
    let v = both (most_values a == 1) _ u.1 in
    let w = both (is_set (action_of a)) _ v.1 in
    let x = both ((unwrap_or_range a.range).start_inclusive == 1) _ w.1 in
    let y = both (is_string (parser_of_value a.parser)) _ x.1 in
    let z = both (not (takes_several a)) _ y.1 in
    record {
      takes = u.0;
      most = equal _ _ v.0;
      sets = set_is _ w.0;
      starts = equal _ _ x.0;
      any_text = string_is _ y.0;
      one = not_true _ z.0;
      plain = not_true _ z.1;
      by_id = found_by_id p c a found (both (list_all (is_placed c) c) _ parts.1).1;
    }

nil : (xs : List Word) → is_empty xs ≡ true → xs ≡ []
nil [] e = refl
nil (x ∷ xs) e = let bad : (suc (length xs) == 0) ≡ true = e in grind (arith, nat_tests)

named_by : (c xs : List Rule) (n : Word) → list_all (is_placed c) xs ≡ true → is_some (arg_by_long xs n) ≡ is_among n (names_in xs)
named_by c [] n all = refl
named_by c (x ∷ xs) n all = go x.index x.long refl refl (named_by c xs n (both (is_placed c x) _ all).1)
  where
    go : (i : Option ℕ) (l : Option Word) → x.index ≡ i → x.long ≡ l → is_some (arg_by_long xs n) ≡ is_among n (names_in xs)
        → is_some (arg_by_long (x ∷ xs) n) ≡ is_among n (names_in (x ∷ xs))
    go (Some k) l e f ih = rw e ih
    go None None e f ih = absurd (true≢false (sym (rw (e, f) at (both (is_placed c x) _ all).0) ∙ and_false (is_empty x.aliases)))
    go None (Some s) e f ih =
        let placed : (is_empty x.aliases && bytes_eq s x.id) ≡ true = rw (e, f) at (both (is_placed c x) _ all).0 in
        let no_alias = nil x.aliases (both (is_empty x.aliases) _ placed).0 in
        rw (e, f, no_alias) (by_test _ (bytes_eq s n))
      where
        by_test : (y : Rule) (b : Bool) → is_some (cond (b || false) (Some y) (arg_by_long xs n)) ≡ (b || is_among n (names_in xs))
        by_test y true = refl
        by_test y false = ih

-- what a place or a name tells of its argument
index_is : (o : Option ℕ) (p : ℕ) → option_map_or (λ k. k == p) o false ≡ true → o ≡ Some p
index_is None p e = absurd (true≢false (sym e))
index_is (Some k) p e = ap Some (equal k p e)

id_is : (c : List Rule) (n : Word) (a : Rule) → (not (is_some a.index) && has_long a n) ≡ true → is_placed c a ≡ true → a.id ≡ n
id_is c n a test placed = go a.index a.long refl refl
  where
    go : (i : Option ℕ) (l : Option Word) → a.index ≡ i → a.long ≡ l → a.id ≡ n
    go (Some k) l e f = absurd (true≢false (sym (rw e at test)))
    go None None e f = absurd (true≢false (sym (rw (e, f) at placed) ∙ and_false (is_empty a.aliases)))
    go None (Some s) e f =
        let at_none : (is_empty a.aliases && bytes_eq s a.id) ≡ true = rw (e, f) at placed in
        let parts = both (is_empty a.aliases) _ at_none in
        let named : (bytes_eq s n || false) ≡ true = rw (e, f, nil a.aliases parts.0) at test in
        sym (same_bytes s a.id parts.1) ∙ same_bytes s n (sym (or_false (bytes_eq s n)) ∙ named)

place_is : (c : List Rule) (p : ℕ) (a : Rule) → a.index ≡ Some p → is_placed c a ≡ true → (p < usize_max) × (arg_by_long c a.id ≡ None)
place_is c p a e placed =
    let at_some : (nat_lt p usize_max && not (is_some (arg_by_long c a.id))) ≡ true = rw e at placed in
    let parts = both (nat_lt p usize_max) _ at_some in
    (ltb-true p usize_max parts.0, none_is (arg_by_long c a.id) (not_true _ parts.1))
  where
    none_is : (o : Option Rule) → is_some o ≡ false → o ≡ None
    none_is None f = refl
    none_is (Some x) f = absurd (true≢false f)

pub command_from : (c : List Rule) → is_command c ≡ true → IsCommand c (names_in c)
command_from c test = record {
  usual_long = λ n a found. usual_from _ c a test found;
  usual_index = λ p a found. usual_from _ c a test found;
  names_are = λ n. named_by c c n placed;
  by_name = λ n a found. let h = found_passes _ (is_placed c) c a found placed in id_is c n a h.0 h.1;
  unnamed = λ p a found. let h = found_passes _ (is_placed c) c a found placed in (place_is c p a (index_is a.index p h.0) h.1).1;
  index = λ p a found. let h = found_passes _ (is_placed c) c a found placed in index_is a.index p h.0;
  small = λ p a found. let h = found_passes _ (is_placed c) c a found placed in (place_is c p a (index_is a.index p h.0) h.1).0;
}
  where
    placed : list_all (is_placed c) c ≡ true
    placed = (both (list_all (is_placed c) c) _ (both (list_all is_usual c) _ test).1).0
