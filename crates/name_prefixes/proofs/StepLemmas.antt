-- From an entry to the last one before it that begins it.
use Rattle.std.proofs.Common.{◌≡◌, ◌⊎◌, inl, inr, ℕ, zero, suc, ◌+◌, ◌-◌, ◌<◌, ◌≤◌, Bool, true, false, List, ◌++◌, length, Option, Some, None, refl, sym, ap, ◌∙◌, subst, arith, nat_lt, slice_get, slice_index_or, not, IfSome, Contains, [], ◌∷◌}
use Rattle.std.specs.Ordering.{is_lt, nat_cmp}
use Rattle.std.specs.Cmp.Lexicographic.{slice_cmp}
use Rattle.std.proofs.lemmas.Bool.Decides.{nat_tests}
use Rattle.std.specs.Option.{SomeIff, option_map_or}
use Rattle.std.proofs.lemmas.Option.{same_Some, slice_get_within, slice_get-get_or, get_or_from_slice_get}
use Rattle.std.proofs.lemmas.List.Elements.{Contains-push, Contains-append_left}
use Rattle.name_prefixes.specs.Prefixes.{ArePrefixesAmong, AreLinks, BeginsAt, Entry, HasOnce, FindsLastBelow, IsPrefix, IsRising, IsUpTo}
use Rattle.std.specs.List.Sorted.{IsPartitionedBy, IsPartitionPoint}
use Rattle.name_prefixes.proofs.OrderLemmas.{between, not_above, prefix_below}
use Rattle.name_prefixes.proofs.PushLemmas.{pushed}

-- the place is there, and this one stands at it or before it
abbrev pub IsAtMost : ℕ → Option ℕ → Type 0
IsAtMost k None = ⊥
IsAtMost k (Some m) = k ≤ m

-- from these on there is none below n but up to the place
pub record IsNext (sorted : List Entry) (text : List ℕ) (n : ℕ) (next : Option ℕ) : Type 0 where
  pub valid : IfSome next (λ m. (m < n) × IsUpTo sorted text m)
  pub covers : (k : ℕ) → k < n → BeginsAt sorted text k → IsAtMost k next

-- one that begins the text, before an entry up to it, begins that entry
pub begins_entry : (sorted : List Entry) (text : List ℕ) (k at : ℕ) (e : Entry) → IsRising sorted → slice_get sorted at ≡ Some e → is_lt (slice_cmp nat_cmp text e.0.now) ≡ false
    → k ≤ at → BeginsAt sorted text k → BeginsAt sorted e.0.now k
begins_entry sorted text k at e rising there below le begins = record {
  entry = begins.entry;
  at = begins.at;
  prefix = between begins.entry.0.now e.0.now text (rising k at begins.entry e le begins.at there) below begins.prefix;
}

-- what stands before an entry up to the text is up to it
pub up_to_before : (sorted : List Entry) (text : List ℕ) (k at : ℕ) (d e : Entry) → IsRising sorted → slice_get sorted k ≡ Some d → slice_get sorted at ≡ Some e
    → is_lt (slice_cmp nat_cmp text e.0.now) ≡ false → k ≤ at → IsUpTo sorted text k
up_to_before sorted text k at d e rising here there below le = record {
  entry = d;
  at = here;
  below = not_above d.0.now e.0.now text (rising k at d e le here there) below;
}

-- the step from an entry to the last one before it that begins it
pub step : (sorted : List Entry) (shorter : List (Option ℕ)) (text : List ℕ) (at : ℕ) (e : Entry) (last : Option ℕ) → IsRising sorted → AreLinks sorted shorter
    → slice_get sorted at ≡ Some e → slice_get shorter at ≡ Some last → is_lt (slice_cmp nat_cmp text e.0.now) ≡ false → IsNext sorted text at last
step sorted shorter text at e None rising links there link below = record {
  valid = tt;
  covers = λ k less begins. links at e None there link k less (begins_entry sorted text k at e rising there below (omega arith) begins);
}
step sorted shorter text at e (Some m) rising links there link below =
    let found : FindsLastBelow (BeginsAt sorted e.0.now) at (Some m) = links at e (Some m) there link in
    record {
      valid = (found.0, up_to_before sorted text m at found.1.entry e rising found.1.at there below (omega (arith, found.0)));
      covers = λ k less begins. elim (nat_lt m k) as (λ b. nat_lt m k ≡ b → k ≤ m) [
        | true ↦ λ above. absurd (found.2 k (grind (arith, nat_tests)) less (begins_entry sorted text k at e rising there below (omega arith) begins))
        | false ↦ λ up_to. grind (arith, nat_tests)
      ] refl;
    }

-- it comes after the place
abbrev pub IsAfter : ℕ → Option ℕ → Type 0
IsAfter k None = Unit {0}
IsAfter k (Some m) = m < k

-- an entry after the place has this place among the paths, and begins the name
pub record IsTold (sorted : List Entry) (name : List ℕ) (next : Option ℕ) (place : ℕ) : Type 0 where
  pub k : ℕ
  pub entry : Entry
  pub at : slice_get sorted k ≡ Some entry
  pub place_is : entry.1 ≡ place
  pub prefix : IsPrefix entry.0.now name
  pub after : IsAfter k next

pub record IsWalkNext (sorted : List Entry) (name : List ℕ) (at : ℕ) (last : Option ℕ) : Type 0 where
  pub valid : IfSome last (λ m. (m < length sorted) × IsUpTo sorted name m)
  pub covers : (k : ℕ) → k < at → BeginsAt sorted name k → IsAtMost k last

-- all that come after the place and begin the name are told, and each that is told comes after it
pub record IsWalked (sorted : List Entry) (name : List ℕ) (places : List ℕ) (next : Option ℕ) : Type 0 where
  pub valid : IfSome next (λ m. (m < length sorted) × IsUpTo sorted name m)
  pub covers : (k : ℕ) (e : Entry) → slice_get sorted k ≡ Some e → IsPrefix e.0.now name → IsAtMost k next ⊎ Contains places e.1
  pub told : (place : ℕ) → Contains places place → IsTold sorted name next place
  pub once : (i j place : ℕ) → slice_get places i ≡ Some place → slice_get places j ≡ Some place → i ≡ j

-- ---- the walk over the entries before one

-- at first the entry before it
pub first_next : (sorted : List Entry) (n : ℕ) (e : Entry) (o : Option ℕ) → IsRising sorted → slice_get sorted n ≡ Some e → SomeIff o (1 ≤ n) (n - 1) → IsNext sorted e.0.now n o
first_next sorted n e None rising there none = record {
  valid = tt;
  covers = λ k less begins. none (omega arith);
}
first_next sorted n e (Some m) rising there is =
    let within : n < length sorted = slice_get_within sorted n e there in
    let here : slice_get sorted m ≡ Some (slice_index_or sorted m e) = slice_get-get_or sorted m e (omega (arith, is)) in
    record {
      valid = (omega (arith, is), record { entry = slice_index_or sorted m e; at = here; below = rising m n (slice_index_or sorted m e) e (omega (arith, is)) here there });
      covers = λ k less begins. omega (arith, is);
    }

-- the place at which the text begins with the path is the last
pub found_here : (sorted : List Entry) (n at : ℕ) (text : List ℕ) (e d : Entry) → slice_get sorted at ≡ Some d → IsPrefix d.0.now text → text ≡ e.0.now → IsNext sorted text n (Some at)
    → FindsLastBelow (BeginsAt sorted e.0.now) n (Some at)
found_here sorted n at text e d there prefix is next = (
  next.valid.0,
  record { entry = d; at = there; prefix = subst (IsPrefix d.0.now) is prefix },
  λ j above less begins.
      let up_to : j ≤ at = next.covers j less (subst (λ t. BeginsAt sorted t j) (sym is) begins) in
      omega (arith, up_to),
)

-- no place is left
pub found_none : (sorted : List Entry) (n : ℕ) (text : List ℕ) (e : Entry) (o : Option ℕ) → o ≡ None → text ≡ e.0.now → IsNext sorted text n o → FindsLastBelow (BeginsAt sorted e.0.now) n None
found_none sorted n text e None none is next = λ k less begins. next.covers k less (subst (λ t. BeginsAt sorted t k) (sym is) begins)
found_none sorted n text e (Some m) none is next = cc

-- the text doesn't begin with this path: on to the last one before it
pub passed : (sorted : List Entry) (shorter : List (Option ℕ)) (n at : ℕ) (text : List ℕ) (e : Entry) (last : Option ℕ) → IsRising sorted → AreLinks sorted shorter
    → slice_get sorted at ≡ Some e → slice_get shorter at ≡ Some last → (IsPrefix e.0.now text → ⊥) → IsNext sorted text n (Some at) → IsNext sorted text n last
passed sorted shorter n at text e last rising links there link other next =
    let up_to : IsUpTo sorted text at = next.valid.1 in
    let same : up_to.entry ≡ e = same_Some up_to.entry e (sym up_to.at ∙ there) in
    let below : is_lt (slice_cmp nat_cmp text e.0.now) ≡ false = subst (λ (x : Entry). is_lt (slice_cmp nat_cmp text x.0.now) ≡ false) same up_to.below in
    let more : IsNext sorted text at last = step sorted shorter text at e last rising links there link below in
    record {
      valid = lower n at last next.valid.0 more.valid;
      covers = λ k less begins. elim (nat_lt k at) as (λ b. nat_lt k at ≡ b → IsAtMost k last) [
        | true ↦ λ before. more.covers k (grind (arith, nat_tests)) begins
        | false ↦ λ not_before.
            let up : k ≤ at = next.covers k less begins in
            let here : k ≡ at = grind (arith, nat_tests) in
            let is : begins.entry ≡ e = same_Some begins.entry e (sym begins.at ∙ ap (slice_get sorted) here ∙ there) in
            absurd (other (subst (λ (x : Entry). IsPrefix x.0.now text) is begins.prefix))
      ] refl;
    }
  where
    lower : (n at : ℕ) (last : Option ℕ) → at < n → IfSome last (λ m. (m < at) × IsUpTo sorted text m) → IfSome last (λ m. (m < n) × IsUpTo sorted text m)
    lower n at None less valid = tt
    lower n at (Some m) less valid = (omega (arith, valid.0), valid.1)

-- ---- what links are told of

pub below_of : (P : ℕ → Type 0) (n : ℕ) (o : Option ℕ) → FindsLastBelow P n o → IfSome o (λ m. m < n)
below_of P n None found = tt
below_of P n (Some m) found = found.0

-- the walk goes down
pub goes_down : (next last : Option ℕ) (at : ℕ) → next ≡ Some at → IfSome last (λ m. m < at) → option_map_or (λ m. m + 1) last 0 < option_map_or (λ m. m + 1) next 0
goes_down next None at is less = rw is (omega arith)
goes_down next (Some m) at is less = rw is (omega (arith, less))

-- one link more
pub links_push : (sorted : List Entry) (shorter : List (Option ℕ)) (last : Option ℕ) → AreLinks sorted shorter
    → ((e : Entry) → slice_get sorted (length shorter) ≡ Some e → FindsLastBelow (BeginsAt sorted e.0.now) (length shorter) last) → AreLinks sorted (shorter ++ last ∷ [])
links_push sorted shorter last links found = λ i e o there link. elim (pushed shorter last i o link) [
  | inl a ↦ links i e o there a.1
  | inr b ↦
      let more : FindsLastBelow (BeginsAt sorted e.0.now) (length shorter) last = found e (ap (slice_get sorted) (sym b.0) ∙ there) in
      subst (λ n. FindsLastBelow (BeginsAt sorted e.0.now) n o) (sym b.0) (subst (λ l. FindsLastBelow (BeginsAt sorted e.0.now) (length shorter) l) b.1 more)
]

-- ---- the walk over all that begin a name

pub contains_at : (xs : List ℕ) (i x : ℕ) → slice_get xs i ≡ Some x → Contains xs x
contains_at xs i x there = (i, slice_get_within xs i x there, get_or_from_slice_get xs i x x there)

split_held : {P : Type 0} (xs : List ℕ) (y x : ℕ) → Contains (xs ++ y ∷ []) x → (Contains xs x → P) → (y ≡ x → P) → P
split_held xs y x held before last = elim (pushed xs y held.0 x (slice_get-get_or (xs ++ y ∷ []) held.0 x held.1 ∙ ap Some held.2)) [
  | inl a ↦ before (contains_at xs held.0 x a.1)
  | inr b ↦ last b.1
]

-- on from an entry, whether it begins the name or not
abbrev step_on : (sorted : List Entry) (shorter : List (Option ℕ)) (name places : List ℕ) (at : ℕ) (e : Entry) (last : Option ℕ) → IsRising sorted → AreLinks sorted shorter
    → slice_get sorted at ≡ Some e → slice_get shorter at ≡ Some last → IsWalked sorted name places (Some at) → IsWalkNext sorted name at last
step_on sorted shorter name places at e last rising links there link walk =
    let up_to : IsUpTo sorted name at = walk.valid.1 in
    let same : up_to.entry ≡ e = same_Some up_to.entry e (sym up_to.at ∙ there) in
    let below : is_lt (slice_cmp nat_cmp name e.0.now) ≡ false = subst (λ (x : Entry). is_lt (slice_cmp nat_cmp name x.0.now) ≡ false) same up_to.below in
    let more : IsNext sorted name at last = step sorted shorter name at e last rising links there link below in
    record { valid = lower at last walk.valid.0 more.valid; covers = more.covers }
  where
    lower : (at : ℕ) (last : Option ℕ) → at < length sorted → IfSome last (λ m. (m < at) × IsUpTo sorted name m) → IfSome last (λ m. (m < length sorted) × IsUpTo sorted name m)
    lower at None less valid = tt
    lower at (Some m) less valid = (omega (arith, valid.0), valid.1)

pub first_walked : (sorted : List Entry) (name : List ℕ) (next : Option ℕ) → FindsLastBelow (IsUpTo sorted name) (length sorted) next
    → ((k : ℕ) (e : Entry) → slice_get sorted k ≡ Some e → IsPrefix e.0.now name → is_lt (slice_cmp nat_cmp name e.0.now) ≡ false) → IsWalked sorted name [] next
first_walked sorted name None found prefixes = record {
  valid = tt;
  covers = λ k e there prefix. absurd (found k (slice_get_within sorted k e there) (record { entry = e; at = there; below = prefixes k e there prefix }));
  told = λ place held. let no : ⊥ = omega (arith, held.1) in absurd no;
  once = λ i j place there other. cc;
}
first_walked sorted name (Some m) found prefixes = record {
  valid = (found.0, found.1);
  covers = λ k e there prefix. elim (nat_lt m k) as (λ b. nat_lt m k ≡ b → IsAtMost k (Some m) ⊎ Contains [] e.1) [
    | true ↦ λ above. absurd (found.2 k (grind (arith, nat_tests)) (slice_get_within sorted k e there) (record { entry = e; at = there; below = prefixes k e there prefix }))
    | false ↦ λ not_above. inl (grind (arith, nat_tests))
  ] refl;
  told = λ place held. let no : ⊥ = omega (arith, held.1) in absurd no;
  once = λ i j place there other. cc;
}

-- what begins the name isn't above it
pub prefixes_below : (prefix name : List ℕ) → IsPrefix prefix name → is_lt (slice_cmp nat_cmp name prefix) ≡ false
prefixes_below prefix name is = prefix_below prefix name is

-- the walk's step
pub walked : (sorted : List Entry) (shorter : List (Option ℕ)) (name places : List ℕ) (at : ℕ) (e : Entry) (last : Option ℕ) → IsRising sorted → HasOnce sorted → AreLinks sorted shorter
    → slice_get sorted at ≡ Some e → slice_get shorter at ≡ Some last → IsPrefix e.0.now name → IsWalked sorted name places (Some at) → IsWalked sorted name (places ++ e.1 ∷ []) last
walked sorted shorter name places at e last rising once links there link prefix walk = record {
  valid = (step_on sorted shorter name places at e last rising links there link walk).valid;
  covers = λ k d here prefixes. elim (nat_lt k at) as (λ b. nat_lt k at ≡ b → IsAtMost k last ⊎ Contains (places ++ e.1 ∷ []) d.1) [
    | true ↦ λ before. inl ((step_on sorted shorter name places at e last rising links there link walk).covers k (grind (arith, nat_tests)) (record { entry = d; at = here; prefix = prefixes }))
    | false ↦ λ not_before. elim (walk.covers k d here prefixes) [
      | inl up_to ↦
          let same : k ≡ at = grind (arith, nat_tests) in
          let is : d ≡ e = same_Some d e (sym here ∙ ap (slice_get sorted) same ∙ there) in
          inr (subst (λ (x : Entry). Contains (places ++ e.1 ∷ []) x.1) (sym is) (Contains-push places e.1))
      | inr held ↦ inr (Contains-append_left places (e.1 ∷ []) d.1 held)
    ]
  ] refl;
  told = λ place held. split_held places e.1 place held (λ before. let t : IsTold sorted name (Some at) place = walk.told place before in record { k = t.k; entry = t.entry; at = t.at; place_is = t.place_is; prefix = t.prefix; after = after_last at last t.k (below_of _ at last (links at e last there link)) t.after })
      (λ same. record { k = at; entry = e; at = there; place_is = same; prefix = prefix; after = at_last at last (below_of _ at last (links at e last there link)) });
  once = λ i j place one other. elim (pushed places e.1 i place one) [
    | inl a ↦ elim (pushed places e.1 j place other) [
      | inl b ↦ walk.once i j place a.1 b.1
      | inr b ↦ absurd (again walk i place a.1 b.1)
    ]
    | inr a ↦ elim (pushed places e.1 j place other) [
      | inl b ↦ absurd (again walk j place b.1 a.1)
      | inr b ↦ a.0 ∙ sym b.0
    ]
  ];
}
  where
    at_last : (at : ℕ) (last : Option ℕ) → IfSome last (λ m. m < at) → IsAfter at last
    at_last at None below = tt
    at_last at (Some m) below = below

    after_last : (at : ℕ) (last : Option ℕ) (k : ℕ) → IfSome last (λ m. m < at) → at < k → IsAfter k last
    after_last at None k below above = tt
    after_last at (Some m) k below above = omega (arith, below)

    again : IsWalked sorted name places (Some at) → (i place : ℕ) → slice_get places i ≡ Some place → e.1 ≡ place → ⊥
    again walk i place one same =
        let t : IsTold sorted name (Some at) place = walk.told place (contains_at places i place one) in
        let is : t.k ≡ at = once t.k at t.entry e t.at there (t.place_is ∙ sym same) in
        let no : ⊥ = omega (arith, t.after, is) in no

-- on past an entry that doesn't begin the name
pub walked_past : (sorted : List Entry) (shorter : List (Option ℕ)) (name places : List ℕ) (at : ℕ) (e : Entry) (last : Option ℕ) → IsRising sorted → AreLinks sorted shorter
    → slice_get sorted at ≡ Some e → slice_get shorter at ≡ Some last → (IsPrefix e.0.now name → ⊥) → IsWalked sorted name places (Some at) → IsWalked sorted name places last
walked_past sorted shorter name places at e last rising links there link other walk = record {
  valid = (step_on sorted shorter name places at e last rising links there link walk).valid;
  covers = λ k d here prefixes. elim (nat_lt k at) as (λ b. nat_lt k at ≡ b → IsAtMost k last ⊎ Contains places d.1) [
    | true ↦ λ before. inl ((step_on sorted shorter name places at e last rising links there link walk).covers k (grind (arith, nat_tests)) (record { entry = d; at = here; prefix = prefixes }))
    | false ↦ λ not_before. elim (walk.covers k d here prefixes) [
      | inl up_to ↦
          let same : k ≡ at = grind (arith, nat_tests) in
          let is : d ≡ e = same_Some d e (sym here ∙ ap (slice_get sorted) same ∙ there) in
          absurd (other (subst (λ (x : Entry). IsPrefix x.0.now name) is prefixes))
      | inr held ↦ inr held
    ]
  ] refl;
  told = λ place held. let t : IsTold sorted name (Some at) place = walk.told place held in record { k = t.k; entry = t.entry; at = t.at; place_is = t.place_is; prefix = t.prefix; after = after_more at last t.k (below_of _ at last (links at e last there link)) t.after };
  once = walk.once;
}
  where
    after_more : (at : ℕ) (last : Option ℕ) (k : ℕ) → IfSome last (λ m. m < at) → at < k → IsAfter k last
    after_more at None k below above = tt
    after_more at (Some m) k below above = omega (arith, below)

-- at the end all are told
pub walked_out : (sorted : List Entry) (name places : List ℕ) (next : Option ℕ) → next ≡ None → IsWalked sorted name places next → ArePrefixesAmong sorted name places
walked_out sorted name places (Some m) none walk = cc
walked_out sorted name places None none walk = record {
  each = λ place is. elim (walk.covers is.i is.entry is.at is.prefix) [
    | inl left ↦ absurd left
    | inr held ↦ subst (Contains places) is.place_is held
  ];
  only = λ place held. let t : IsTold sorted name None place = walk.told place held in record { i = t.k; entry = t.entry; at = t.at; place_is = t.place_is; prefix = t.prefix };
  once = walk.once;
}

-- ---- the last that isn't above a name

not_true : (b : Bool) → not b ≡ true → b ≡ false
not_true true e = sym e
not_true false e = refl

not_false : (b : Bool) → not b ≡ false → b ≡ true
not_false true e = refl
not_false false e = sym e

apart_bools : (b : Bool) → b ≡ true → b ≡ false → ⊥
apart_bools b is other = let both : true ≡ false = sym is ∙ other in cc

below_one : (n k : ℕ) → (1 ≤ n → ⊥) → n ≤ k
below_one zero k no_more = omega arith
below_one (suc n) k no_more = absurd (no_more (omega arith))

pub parted : (sorted : List Entry) (name : List ℕ) → IsRising sorted → IsPartitionedBy (λ (e : Entry). not (is_lt (slice_cmp nat_cmp name e.0.now))) sorted
parted sorted name rising = λ i j d le within pass.
    let low : slice_get sorted i ≡ Some (slice_index_or sorted i d) = slice_get-get_or sorted i d (omega arith) in
    let high : slice_get sorted j ≡ Some (slice_index_or sorted j d) = slice_get-get_or sorted j d within in
    let above : is_lt (slice_cmp nat_cmp name (slice_index_or sorted j d).0.now) ≡ false = not_true _ pass in
    ap not (not_above (slice_index_or sorted i d).0.now (slice_index_or sorted j d).0.now name (rising i j _ _ le low high) above)

none : Entry
none = (record { ref_ptr = (0, 0); now = [] }, 0)

pub last_found : (sorted : List Entry) (name : List ℕ) (end : ℕ) (o : Option ℕ) → end ≤ length sorted
    → IsPartitionPoint (λ (e : Entry). not (is_lt (slice_cmp nat_cmp name e.0.now)) ≡ true) (λ (e : Entry). not (is_lt (slice_cmp nat_cmp name e.0.now)) ≡ false) sorted end
    → SomeIff o (1 ≤ end) (end - 1) → FindsLastBelow (IsUpTo sorted name) (length sorted) o
last_found sorted name end None within parts is = λ k less up_to.
    let empty : end ≤ k = below_one end k is in
    let above : is_lt (slice_cmp nat_cmp name up_to.entry.0.now) ≡ true =
    not_false _ (subst (λ (e : Entry). not (is_lt (slice_cmp nat_cmp name e.0.now)) ≡ false) (get_or_from_slice_get sorted k up_to.entry up_to.entry up_to.at) (parts.1 k up_to.entry empty less)) in
    apart_bools _ above up_to.below
last_found sorted name end (Some m) within parts is = (
  omega (arith, is),
  record {
    entry = slice_index_or sorted m none;
    at = slice_get-get_or sorted m none (omega (arith, is));
    below = not_true _ (parts.0 m none (omega arith) (omega (arith, is)));
  },
  λ j above less up_to.
      let high : is_lt (slice_cmp nat_cmp name up_to.entry.0.now) ≡ true =
      not_false _ (subst (λ (e : Entry). not (is_lt (slice_cmp nat_cmp name e.0.now)) ≡ false) (get_or_from_slice_get sorted j up_to.entry up_to.entry up_to.at) (parts.1 j up_to.entry (omega (arith, is)) less)) in
      apart_bools _ high up_to.below,
)
