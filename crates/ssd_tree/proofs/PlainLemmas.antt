-- Sources without the segments that lead nowhere: what is plain once stays as it is, since no segment of a source is empty.
use Rattle.std.proofs.Common.{◌≡◌, ◌==◌, ◌||◌, ◌&&◌, not, ℕ, Bool, true, false, cond, List, [], ◌∷◌, length, Option, Some, None, refl, sym, ap, ◌∙◌, subst, inl, inr, codes}
use Rattle.std.specs.Prelude.{All, IfSome, bytes_eq, filter}
use Rattle.std.specs.List.{AllZip, join_with_byte, list_any, onto_first}
use Rattle.std.proofs.lemmas.List.Elements.{All-cons, All-filter, All-head, All-nil, All-tail, Contains-get_or, filter_passes}
use Rattle.std.proofs.lemmas.List.Splits.{slice_split-cons_no, slice_split-cons_yes, slice_split_at, slice_split_none}
use Rattle.sim_base.specs.Path.{is_dot, kept_segments, plain_path, segments, without_last_empty}
use Rattle.doc_grammar.specs.Nodes.{Node}
use Rattle.doc_tree.specs.declared.rule.SystemRule.TheVariants as r
use Rattle.ssd_tree.specs.declared.tree.Binding.{Binding}
use Rattle.ssd_tree.specs.declared.tree.ComponentPart.{ComponentPart}
use Rattle.ssd_tree.specs.declared.tree.Origin.{Origin}
use Rattle.ssd_tree.specs.declared.tree.Origin.TheVariants.{File, Inline}
use Rattle.ssd_tree.specs.declared.tree.SystemTree.{SystemTree}
use Rattle.ssd_tree.specs.Elements.{IsBinding, IsComponent, first_child}
use Rattle.ssd_tree.specs.Listings.{IsListing}
use Rattle.ssd_tree.specs.Parts.{Describes, HasPath, IsBindingPart, IsComponentPart, IsMappingOrigin, IsOrigin, IsPlain, IsPlainOrigin, NamesPlainPaths}
use Rattle.ssd_tree.specs.Rules.{HasNoPath, IsSoundStructure}
use Rattle.ssd_tree.specs.Sources.{LeadsDown, is_astray, is_left_out, is_path}

-- ---- segments

abbrev is_slash : ℕ → Bool
is_slash b = b == 47

-- no `/` stands in it
abbrev IsSegment : List ℕ → Type 0
IsSegment segment = All (λ b. is_slash b ≡ false) segment

abbrev IsFilled : List ℕ → Type 0
IsFilled segment = (length segment == 0) ≡ false

abbrev leads : List ℕ → Bool
leads segment = not (is_dot segment)

split_segments : (path : List ℕ) → All IsSegment (segments path)
split_segments [] = All-cons IsSegment [] [] (All-nil (λ b. is_slash b ≡ false)) (All-nil IsSegment)
split_segments (b ∷ path) = by (is_slash b) refl (split_segments path)
  where
    onto : (parts : List (List ℕ)) → is_slash b ≡ false → All IsSegment parts → All IsSegment (onto_first b parts)
    onto [] other all = All-cons IsSegment (b ∷ []) [] (All-cons (λ x. is_slash x ≡ false) b [] other (All-nil (λ x. is_slash x ≡ false))) (All-nil IsSegment)
    onto (part ∷ parts) other all =
        All-cons IsSegment (b ∷ part) parts (All-cons (λ x. is_slash x ≡ false) b part other (All-head IsSegment part parts all)) (All-tail IsSegment part parts all)

    by : (is : Bool) → is_slash b ≡ is → All IsSegment (segments path) → All IsSegment (segments (b ∷ path))
    by true slash rest =
        subst (All IsSegment) (sym (slice_split-cons_yes is_slash b path slash))
        (All-cons IsSegment [] (segments path) (All-nil (λ x. is_slash x ≡ false)) rest)
    by false other rest = subst (All IsSegment) (sym (slice_split-cons_no is_slash b path other)) (onto (segments path) other rest)

all_but_last : (P : List ℕ → Type 0) (parts : List (List ℕ)) → All P parts → All P (without_last_empty parts)
all_but_last P [] all = all
all_but_last P (s ∷ []) all = by (length s == 0)
  where
    by : (b : Bool) → All P (cond b [] (s ∷ []))
    by true = All-nil P
    by false = all
all_but_last P (s ∷ t ∷ more) all = All-cons P s (without_last_empty (t ∷ more)) (All-head P s (t ∷ more) all) (all_but_last P (t ∷ more) (All-tail P s (t ∷ more) all))

-- ---- joined, and taken apart again

joined_apart : (part : List ℕ) (parts : List (List ℕ)) → All IsSegment (part ∷ parts) → segments (join_with_byte 47 (part ∷ parts)) ≡ part ∷ parts
joined_apart part [] all = slice_split_none is_slash part (All-head IsSegment part [] all)
joined_apart part (next ∷ parts) all =
    slice_split_at is_slash part 47 (join_with_byte 47 (next ∷ parts)) (All-head IsSegment part (next ∷ parts) all) refl
    ∙ ap (λ (more : List (List ℕ)). part ∷ more) (joined_apart next parts (All-tail IsSegment part (next ∷ parts) all))

filled_stay : (parts : List (List ℕ)) → All IsFilled parts → without_last_empty parts ≡ parts
filled_stay [] all = refl
filled_stay (s ∷ []) all = ap (λ (b : Bool). cond b [] (s ∷ [])) (All-head IsFilled s [] all)
filled_stay (s ∷ t ∷ more) all = ap (λ (rest : List (List ℕ)). s ∷ rest) (filled_stay (t ∷ more) (All-tail IsFilled s (t ∷ more) all))

leading_stay : (parts : List (List ℕ)) → All (λ s. leads s ≡ true) parts → filter leads parts ≡ parts
leading_stay [] all = refl
leading_stay (s ∷ more) all =
    ap (λ (b : Bool). cond b (s ∷ filter leads more) (filter leads more)) (All-head (λ x. leads x ≡ true) s more all)
    ∙ ap (λ (rest : List (List ℕ)). s ∷ rest) (leading_stay more (All-tail (λ x. leads x ≡ true) s more all))

kept_again : (kept : List (List ℕ)) → All IsSegment kept → All (λ s. leads s ≡ true) kept → All IsFilled kept → kept_segments (join_with_byte 47 kept) ≡ kept
kept_again [] all lead filled = refl
kept_again (s ∷ more) all lead filled =
    ap (λ (parts : List (List ℕ)). filter leads (without_last_empty parts)) (joined_apart s more all)
    ∙ ap (filter leads) (filled_stay (s ∷ more) filled) ∙ leading_stay (s ∷ more) lead

-- where no segment that is kept is empty, a path is plain from then on
pub plain_once : (path : List ℕ) → All IsFilled (kept_segments path) → IsPlain (plain_path path)
plain_once path filled =
    sym (ap (join_with_byte 47) (kept_again (kept_segments path)
    (All-filter leads IsSegment (without_last_empty (segments path)) (all_but_last IsSegment (segments path) (split_segments path)))
    (filter_passes leads (without_last_empty (segments path))) filled))

-- ---- sources

both_true : (a b : Bool) → (a && b) ≡ true → (a ≡ true) × (b ≡ true)
both_true true b e = (refl, e)
both_true false b e = (e, (cc))

none_of : (a b c : Bool) → not ((a || b) || c) ≡ true → (a ≡ false) × (not c ≡ true)
none_of true b c e = absurd (cc)
none_of false true c e = absurd (cc)
none_of false false c e = (refl, e)

none_astray : (parts : List (List ℕ)) → not (list_any is_astray parts) ≡ true → All IsFilled parts
none_astray [] e = All-nil IsFilled
none_astray (s ∷ more) e =
    let none = none_of (length s == 0) (bytes_eq s (codes "..")) (list_any is_astray more) e in
    All-cons IsFilled s more none.0 (none_astray more none.1)

source_plain : (source : List ℕ) → is_path source ≡ true → IsPlain (plain_path source)
source_plain source is =
    plain_once source
    (none_astray (kept_segments source)
    (both_true (not (length (kept_segments source) == 0)) (not (list_any is_astray (kept_segments source)))
    (both_true (not (list_any is_left_out source)) (not (length (kept_segments source) == 0) && not (list_any is_astray (kept_segments source))) is).1).1)

-- the segments of a path that is taken
source_leads : (source : List ℕ) → is_path source ≡ true → LeadsDown (plain_path source)
source_leads source is =
    let some = not (length (kept_segments source) == 0) in
    let down = not (list_any is_astray (kept_segments source)) in
    let both = both_true some down (both_true (not (list_any is_left_out source)) (some && down) is).1 in record {
      segments = kept_segments source;
      some = not_true (length (kept_segments source) == 0) both.0;
      whole = All-filter leads IsSegment (without_last_empty (segments source)) (all_but_last IsSegment (segments source) (split_segments source));
      filled = none_astray (kept_segments source) both.1;
      leads = filter_passes leads (without_last_empty (segments source));
      is = refl;
    }
  where
    not_true : (b : Bool) → not b ≡ true → b ≡ false
    not_true true e = absurd (cc)
    not_true false e = refl

-- a path that leads down is plain
pub leads_plain : (path : List ℕ) → LeadsDown path → IsPlain path
leads_plain path down =
    down.is ∙ (sym (ap (join_with_byte 47) (kept_again down.segments down.whole down.leads down.filled)) ∙ ap plain_path (sym down.is))

-- an element whose source is a path has a plain one
module _ (t : List Node) (k : ℕ) (is_one : HasNoPath t k → ⊥) where
  path_plain : (path : List ℕ) → HasPath t k path → IsPlain path
  path_plain path has = by (is_path has.0) refl
    where
      by : (b : Bool) → is_path has.0 ≡ b → IsPlain path
      by true e = subst IsPlain (sym has.2) (source_plain has.0 e)
      by false e = absurd (is_one (has.0, has.1, e))

  path_leads : (path : List ℕ) → HasPath t k path → LeadsDown path
  path_leads path has = by (is_path has.0) refl
    where
      by : (b : Bool) → is_path has.0 ≡ b → LeadsDown path
      by true e = subst LeadsDown (sym has.2) (source_leads has.0 e)
      by false e = absurd (is_one (has.0, has.1, e))

  origin_plain : (inner : Option ℕ) (origin : Origin) → IsOrigin t k inner origin → IsPlainOrigin origin
  origin_plain inner (File base path) is = path_plain path is.0
  origin_plain inner (Inline node) is = tt

-- ---- the tree

module _ (t : List Node) (sound : IsSoundStructure t) where
  mapping_plain : (k : ℕ) (mapping : Option Origin) → IsMappingOrigin t k mapping → IfSome mapping IsPlainOrigin
  mapping_plain k None is = tt
  mapping_plain k (Some origin) is = origin_plain t is.0 (λ none. sound.1 r.NoSource is.0 (inr (inr (k, is.1, inl none)))) (Some is.0) origin is.2

-- what holds of all that stands beside elements of a sort
each_of : {X : Type 0} (Sort : ℕ → Type 0) (R : ℕ → X → Type 0) (Q : X → Type 0) → ((k : ℕ) (x : X) → Sort k → R k x → Q x) →
    (ks : List ℕ) (xs : List X) → All Sort ks → AllZip R ks xs → All Q xs
each_of Sort R Q so [] [] all zip = All-nil Q
each_of Sort R Q so [] (x ∷ xs) all zip = absurd zip
each_of Sort R Q so (k ∷ ks) [] all zip = absurd zip
each_of Sort R Q so (k ∷ ks) (x ∷ xs) all zip = All-cons Q x xs (so k x (All-head Sort k ks all) zip.0) (each_of Sort R Q so ks xs (All-tail Sort k ks all) zip.1)

all_listed : (Sort : ℕ → Type 0) (nodes : List ℕ) → IsListing Sort nodes → All Sort nodes
all_listed Sort nodes is = λ i d below. (is.each _).0 (Contains-get_or nodes i d below)

pub plain_paths : (t : List Node) (tree : SystemTree) → IsSoundStructure t → Describes t tree → NamesPlainPaths tree
plain_paths t tree sound d = record {
  sources = each_of (IsComponent t) (IsComponentPart t d.nodes) (λ (c : ComponentPart). LeadsDown c.source)
      (λ k c is part. path_leads t k (λ none. sound.1 r.NoSource k (inl (is, none))) c.source part.source)
      d.nodes.components tree.components (all_listed (IsComponent t) d.nodes.components d.lists.components) d.components;
  components = each_of (IsComponent t) (IsComponentPart t d.nodes) (λ (c : ComponentPart). IsPlain c.source)
      (λ k c is part. path_plain t k (λ none. sound.1 r.NoSource k (inl (is, none))) c.source part.source)
      d.nodes.components tree.components (all_listed (IsComponent t) d.nodes.components d.lists.components) d.components;
  values = each_of (IsBinding t) (IsBindingPart t d.nodes) (λ (b : Binding). IsPlainOrigin b.values)
      (λ k b is part. origin_plain t k (λ none. sound.1 r.NoSource k (inr (inl (is, inl none)))) (first_child t k (codes "ParameterValues")) b.values part.values)
      d.nodes.bindings tree.bindings (all_listed (IsBinding t) d.nodes.bindings d.lists.bindings) d.bindings;
  mappings = each_of (IsBinding t) (IsBindingPart t d.nodes) (λ (b : Binding). IfSome b.mapping IsPlainOrigin)
      (λ k b is part. mapping_plain t sound k b.mapping part.mapping)
      d.nodes.bindings tree.bindings (all_listed (IsBinding t) d.nodes.bindings d.lists.bindings) d.bindings;
}
