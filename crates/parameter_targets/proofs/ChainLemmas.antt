-- One more place before the chains of names.
use Rattle.std.proofs.Common.{◌≡◌, ◌⊎◌, ◌<◌, ◌≤◌, ◌+◌, ◌-◌, ℕ, Bool, true, false, cond, Bor, List, [], length, map, set, get_or, Option, Some, None, refl, sym, ap, ◌∙◌, subst, inl, inr, arith}
use Rattle.std.specs.Map.{update}
use Rattle.std.specs.BTreeMap.{UpdatesBy}
use Rattle.std.specs.Ordering.{nat_cmp}
use Rattle.std.specs.Cmp.Lexicographic.{slice_cmp}
use Rattle.std.specs.Str.{bytes_eq}
use Rattle.std.proofs.lemmas.Map.Text.{btree_map_updates_str}
use Rattle.std.proofs.lemmas.Slice.Eq.{bytes_eq-Decides}
use Rattle.std.proofs.lemmas.Bool.{cases_lt}
use Rattle.std.proofs.lemmas.List.{length-set, get_or-set_same, get_or-set_other}
use Rattle.parameter_targets.specs.Chains.{FindsFrom, IsChainedFrom, first_of, text_at}
use Rattle.std.specs.Option.{option_map, unwrap_or}
use Rattle.std.proofs.lemmas.Option.{slice_get-get_or, slice_get-map}
use Rattle.parameter_targets.specs.Tables.{text_of}
use Rattle.parameter_targets.specs.declared.chains.NameChains.{NameChains}

name_each : (y : List ℕ) (n : ℕ) (old new : List ℕ → Option ℕ) → ((x : List ℕ) → new x ≡ update bytes_eq old y (Some n) x)
    → (x : List ℕ) → ((x ≡ y) × (new x ≡ Some n)) ⊎ ((x ≡ y → ⊥) × (new x ≡ old x))
name_each y n old new each x = at (bytes_eq y x) refl
  where
    at : (b : Bool) → bytes_eq y x ≡ b → ((x ≡ y) × (new x ≡ Some n)) ⊎ ((x ≡ y → ⊥) × (new x ≡ old x))
    at true e = inl (sym ((bytes_eq-Decides y x).0 e), each x ∙ ap (λ z. cond z (Some n) (old x)) e)
    at false e = inr (λ same. let is : bytes_eq y x ≡ true = (bytes_eq-Decides y x).1 (sym same) in cc, each x ∙ ap (λ z. cond z (Some n) (old x)) e)

-- from one place sooner, where that has another name
finds_sooner : (texts : List (List ℕ)) (n : ℕ) (x : List ℕ) (o : Option ℕ) → (text_at texts n ≡ x → ⊥) → FindsFrom texts (n + 1) x o → FindsFrom texts n x o
finds_sooner texts n x None other none = λ k l h e. by k l h e (cases_lt n k)
  where
    by : (k : ℕ) → n ≤ k → k < length texts → text_at texts k ≡ x → (n < k) ⊎ (k ≤ n) → ⊥
    by k l h e (inl more) = none k (omega (arith, more)) h e
    by k l h e (inr less) = let same : k ≡ n = omega (arith, l, less) in other (subst (λ z. text_at texts z ≡ x) same e)
finds_sooner texts n x (Some k) other f = (let l = f.0 in omega (arith, l), f.1, f.2, λ j l h e. by j l h e (cases_lt n j))
  where
    by : (j : ℕ) → n ≤ j → j < k → text_at texts j ≡ x → (n < j) ⊎ (j ≤ n) → ⊥
    by j l h e (inl more) = f.3 j (omega (arith, more)) h e
    by j l h e (inr less) = let same : j ≡ n = omega (arith, l, less) in other (subst (λ z. text_at texts z ≡ x) same e)

pub chained_more : (texts : List (List ℕ)) (n : ℕ) (old new : NameChains) (name : List ℕ) → name ≡ text_at texts n → n < length old.next.items → new.next.items ≡ set old.next.items n (first_of old name)
    → ((x : List ℕ) → ((x ≡ name) × (first_of new x ≡ Some n)) ⊎ ((x ≡ name → ⊥) × (first_of new x ≡ first_of old x))) → IsChainedFrom texts (n + 1) old → IsChainedFrom texts n new
chained_more texts n old new name is within written each was = record {
  same_length = ap length written ∙ length-set old.next.items n (first_of old name) ∙ was.same_length;
  finds = λ x. finds x (each x);
  goes_on = λ p l h. subst (λ z. FindsFrom texts (p + 1) (text_at texts p) (get_or z p None)) (sym written) (goes_on p l h (cases_lt n p));
}
  where
    next : List (Option ℕ)
    next = old.next.items

    finds : (x : List ℕ) → ((x ≡ name) × (first_of new x ≡ Some n)) ⊎ ((x ≡ name → ⊥) × (first_of new x ≡ first_of old x)) → FindsFrom texts n x (first_of new x)
    finds x (inl here) = subst (FindsFrom texts n x) (sym here.1) (omega arith, let e = was.same_length in omega (arith, e, within), sym is ∙ sym here.0, λ j l h e. omega (arith, l, h))
    finds x (inr other) = subst (FindsFrom texts n x) (sym other.1) (finds_sooner texts n x (first_of old x) (λ e. other.0 (sym (is ∙ e))) (was.finds x))

    goes_on : (p : ℕ) → n ≤ p → p < length texts → (n < p) ⊎ (p ≤ n) → FindsFrom texts (p + 1) (text_at texts p) (get_or (set next n (first_of old name)) p None)
    goes_on p l h (inl more) = subst (FindsFrom texts (p + 1) (text_at texts p)) (sym (get_or-set_other next n p (first_of old name) None (λ e. omega (arith, e, more)))) (was.goes_on p (omega (arith, more)) h)
    goes_on p l h (inr less) =
        let same : p ≡ n = omega (arith, l, less) in
        subst (λ z. FindsFrom texts (z + 1) (text_at texts z) (get_or (set next n (first_of old name)) z None)) (sym same)
        (subst (FindsFrom texts (n + 1) (text_at texts n)) (sym (get_or-set_same next n (first_of old name) None within)) (subst (λ z. FindsFrom texts (n + 1) z (first_of old name)) is (was.finds name)))

pub put_chained : (texts : List (List ℕ)) (n : ℕ) (old new : NameChains) (name : List ℕ) (later : Option ℕ) → UpdatesBy (λ x y. slice_cmp nat_cmp x.now y.now) (λ k. slice_cmp nat_cmp name k.now) old.first new.first (Some n)
    → later ≡ first_of old name → new.next.items ≡ set old.next.items n later → name ≡ text_at texts n → n < length old.next.items → IsChainedFrom texts (n + 1) old → IsChainedFrom texts n new
put_chained texts n old new name later updates was written is within chained =
    chained_more texts n old new name is within (written ∙ ap (set old.next.items n) was)
    (name_each name n (first_of old) (first_of new) (btree_map_updates_str name old.first new.first (Some n) updates)) chained

abbrev pub left : ℕ → Option ℕ → ℕ
left len None = 0
left len (Some at) = len - at

pub left_smaller : (texts : List (List ℕ)) (at : ℕ) (y : List ℕ) (place o : Option ℕ) → place ≡ Some at → at < length texts → FindsFrom texts (at + 1) y o → left (length texts) o < left (length texts) place
left_smaller texts at y place None e l f = subst (λ z. 0 < left (length texts) z) (sym e) (omega (arith, l))
left_smaller texts at y place (Some k) e l f = subst (λ z. length texts - k < left (length texts) z) (sym e) (let h = f.0 in let m = f.1 in omega (arith, l, h, m))

pub text_is : (entries : List (Bor (List ℕ) × ℕ)) (k : ℕ) (d : Bor (List ℕ) × ℕ) → k < length entries → (get_or entries k d).0.now ≡ text_at (map text_of entries) k
text_is entries k d within = sym (ap (λ o. unwrap_or o []) (slice_get-map text_of entries k ∙ ap (option_map text_of) (slice_get-get_or entries k d within)))
