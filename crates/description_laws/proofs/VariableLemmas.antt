-- The variables of a sound description have names, start values of their types, and Clocks.
use Rattle.std.proofs.Common.{◌≡◌, ◌⊎◌, inl, inr, ℕ, ◌+◌, ◌<◌, ℤ, true, false, List, [], ◌∷◌, length, map, filter, get_or, Option, Some, None, is_some, refl, sym, ap, ◌∙◌, subst, arith, All, Contains, codes, bytes_eq, nat_eq}
use Rattle.std.specs.Prelude.{IfSome, IsSomeAnd, slice_get, unwrap_or}
use Rattle.std.specs.List.{IsDistinct, range_with_len}
use Rattle.std.specs.Option.{option_map_or}
use Rattle.std.proofs.lemmas.List.Elements.{All-map, All-weaker, filter_passes}
use Rattle.std.proofs.lemmas.List.FromFn.{get_or-range_with_len, length-range_with_len}
use Rattle.std.proofs.lemmas.Option.{same_Some, slice_get-get_or}
use Rattle.std.proofs.lemmas.Slice.Eq.{bytes_eq-Decides}
use Rattle.value_types.specs.declared.values.PortType.{PortType}
use Rattle.value_types.specs.declared.values.PortType.TheVariants.{Int8, UInt8, Int16, UInt16, Int32, UInt32, Int64, UInt64, Boolean, Enumeration, Clock}
use Rattle.value_types.specs.declared.shape.Variable.{Variable}
use Rattle.value_types.specs.declared.shape.Shape.{Shape}
use Rattle.value_types.specs.Reading.{Reads}
use Rattle.value_types.specs.Values.{Fits}
use Rattle.value_types.specs.Shape.{is_at, is_clock, is_clock_type, variable_at}
use Rattle.doc_grammar.specs.Nodes.{Node}
use Rattle.doc_tree.specs.Elements.{children_of}
use Rattle.doc_tree.specs.declared.rule.DescriptionRule.TheVariants as r
use Rattle.doc_tables.specs.Elements.{name_of, attribute, unless_empty, text_of}
use Rattle.fmu_description.specs.Texts.{port_type}
use Rattle.fmu_description.specs.Elements.{is_variable, is_clock as is_clock_element, is_alias, reference_of, clock_key}
use Rattle.fmu_description.specs.Clocks.{IsIgnored, ByClock, clocks_of}
use Rattle.fmu_description.specs.Rules.{IsSoundDescription}
use Rattle.fmu_description.specs.Description.{Describes, IsKind, IsStart, IsVariable}
use Rattle.fmu_description.proofs.CallerLemmas.{references_distinct, is_variable_within}
use Rattle.system_model.specs.Shapes.{HasSoundVariables, HasNames, HasFittingStart, NamesClocks}
use Rattle.system_model.proofs.CallerLemmas.{Partner, all_by_place, at_contains, filtered_partner, found_under, true_false}
use Rattle.description_laws.proofs.Keys.{both, keyed}
use Rattle.description_laws.proofs.Zips.{beside_passing}

-- ---- names and start values

has_name : (text : Option (List ℕ)) → (unless_empty text ≡ None → ⊥) → 0 < length (unwrap_or text [])
has_name None h = absurd (h refl)
has_name (Some []) h = absurd (h refl)
has_name (Some (b ∷ bs)) h = omega arith

reads_fits : (kind : PortType) (text : List ℕ) (value : ℤ) → Reads kind text value → Fits kind value
reads_fits Boolean text value (inl one) = subst (Fits Boolean) (sym one.0) (omega arith, omega arith)
reads_fits Boolean text value (inr none) = subst (Fits Boolean) (sym none.0) (omega arith, omega arith)
reads_fits Int8 text value h = h.1
reads_fits UInt8 text value h = h.1
reads_fits Int16 text value h = h.1
reads_fits UInt16 text value h = h.1
reads_fits Int32 text value h = h.1
reads_fits UInt32 text value h = h.1
reads_fits Int64 text value h = h.1
reads_fits UInt64 text value h = h.1
reads_fits Enumeration text value h = h.1
reads_fits Clock text value h = h.1

abbrev FitsStart : Option PortType → Option ℤ → Type 0
FitsStart kind start = IfSome start (λ value. IsSomeAnd kind (λ (k : PortType). Fits k value))

start_fits : (kind : Option PortType) (text : Option (List ℕ)) (start : Option ℤ) → IsStart kind text start → FitsStart kind start
start_fits None text start h = subst (FitsStart None) (sym h) tt
start_fits (Some kind) None start h = subst (FitsStart (Some kind)) (sym h) tt
start_fits (Some kind) (Some text) start h = subst (FitsStart (Some kind)) (sym h.1) (reads_fits kind text h.0 h.2)

-- ---- elements and lists

place_in_range : (n k : ℕ) → k < n → slice_get (range_with_len 0 n) k ≡ Some k
place_in_range n k lt =
    let long : length (range_with_len 0 n) ≡ n = length-range_with_len 0 n in
    let at : get_or (range_with_len 0 n) k k ≡ 0 + k = get_or-range_with_len 0 n k k lt in
    let is : 0 + k ≡ k = omega arith in
    slice_get-get_or (range_with_len 0 n) k k (omega (arith, long, lt)) ∙ ap Some (at ∙ is)

all_contained : {X : Type 0} (P : X → Type 0) (xs : List X) → ((x : X) → Contains xs x → P x) → All P xs
all_contained P xs h = all_by_place P xs (λ k x at. h x (at_contains xs k x at))

-- ---- the variables

module _ (t : List Node) (per_second : ℕ) (sound : IsSoundDescription t per_second) where
  variable_named : (k : ℕ) (v : Variable) → is_variable t k ≡ true → IsVariable t k v → HasNames v
  variable_named k v is h = (
    subst (λ (name : List ℕ). 0 < length name) (sym h.name) (has_name (attribute t k (codes "name")) (λ lacks. sound r.Absent k (inr (inr (inl (is, inl lacks)))))),
    subst (All (λ (alias : List ℕ). 0 < length alias)) (sym h.aliases)
        (All-map (λ (alias : List ℕ). 0 < length alias) (λ a. text_of t a (codes "name")) (filter (is_alias t) (children_of t k))
        (All-weaker (λ a. is_alias t a ≡ true) (λ a. 0 < length (text_of t a (codes "name"))) alias_named (filter (is_alias t) (children_of t k)) (filter_passes (is_alias t) (children_of t k)))),
  )
    where
      alias_named : (a : ℕ) → is_alias t a ≡ true → 0 < length (text_of t a (codes "name"))
      alias_named a alias = has_name (attribute t a (codes "name")) (λ lacks. sound r.Absent a (inr (inr (inr (inl (alias, lacks))))))

  variable_starts : (k : ℕ) (v : Variable) → IsKind t k v.kind v.start → HasFittingStart v
  variable_starts k v (inl ignored) = subst (FitsStart v.kind) (sym ignored.2) tt
  variable_starts k v (inr own) = start_fits v.kind (attribute t k (codes "start")) v.start own.2

  module _ (shape : Shape) (describes : Describes t per_second shape) where
    distinct : IsDistinct nat_eq (map (λ (v : Variable). v.reference) shape.variables)
    distinct = references_distinct t per_second sound shape.variables describes.variables

    -- an element of a Clock is ignored, or its reference is that of a Clock
    clock_at : (c reference : ℕ) → clock_key t c ≡ Some reference → IsIgnored t c ⊎ (is_at is_clock shape.variables reference ≡ true)
    clock_at c reference key = by_kind partner.holds.kind
      where
        key_is : (is_clock_element t c ≡ true) × (reference_of t c ≡ Some reference)
        key_is = keyed (is_clock_element t c) (reference_of t c) reference key

        sorts : (bytes_eq (name_of t c) (codes "Clock") ≡ true) × (is_variable t c ≡ true)
        sorts = both (bytes_eq (name_of t c) (codes "Clock")) (is_variable t c) key_is.0

        partner : Partner (IsVariable t) c shape.variables
        partner = filtered_partner (IsVariable t) (is_variable t) (range_with_len 0 (length t)) shape.variables c c describes.variables (place_in_range (length t) c (is_variable_within t c sorts.1)) sorts.1

        v : Variable
        v = partner.other

        found : variable_at shape.variables reference ≡ Some v
        found =
            subst (λ (x : ℕ). variable_at shape.variables x ≡ Some v) (same_Some v.reference reference (sym partner.holds.reference ∙ key_is.1))
            (found_under (λ (w : Variable). w.reference) shape.variables partner.place v distinct partner.is)

        by_kind : IsKind t c v.kind v.start → IsIgnored t c ⊎ (is_at is_clock shape.variables reference ≡ true)
        by_kind (inl ignored) = inl ignored.0
        by_kind (inr own) =
            inr (ap (λ (o : Option Variable). option_map_or is_clock o false) found
            ∙ ap is_clock_type (own.1 ∙ ap port_type ((bytes_eq-Decides (name_of t c) (codes "Clock")).0 sorts.0)))

    -- what a variable names that isn't ignored are Clocks, which aren't ignored either
    names_clock : (k : ℕ) (v : Variable) → is_variable t k ≡ true → IsKind t k v.kind v.start → is_some v.kind ≡ true → (reference : ℕ) → Contains (clocks_of t k) reference → is_at is_clock shape.variables reference ≡ true
    names_clock k v is (inl ignored) kind reference among = absurd (true_false (sym kind ∙ ap is_some ignored.1))
    names_clock k v is (inr own) kind reference among =
        (elim (is_at is_clock shape.variables reference) as (λ b. is_at is_clock shape.variables reference ≡ b → b ≡ true) [
          | true ↦ λ e. refl
          | false ↦ λ e. absurd (sound r.NoClock k (is, (reference, among, λ held. held_none e held.0 held.1 (clock_at held.0 reference held.1))))
        ]) refl
      where
        held_none : is_at is_clock shape.variables reference ≡ false → (c : ℕ) → clock_key t c ≡ Some reference → IsIgnored t c ⊎ (is_at is_clock shape.variables reference ≡ true) → ⊥
        held_none e c key (inl ignored) = own.0 (ByClock k c reference is among key ignored)
        held_none e c key (inr clock) = true_false (sym clock ∙ e)

    variable_clocks : (k : ℕ) (v : Variable) → is_variable t k ≡ true → IsVariable t k v → NamesClocks shape v
    variable_clocks k v is h kind =
        subst (All (λ r. is_at is_clock shape.variables r ≡ true)) (sym h.clocks)
        (all_contained (λ r. is_at is_clock shape.variables r ≡ true) (clocks_of t k) (names_clock k v is h.kind kind))

    pub variables_sound : HasSoundVariables shape
    variables_sound = record {
      named = each HasNames variable_named;
      distinct = distinct;
      starts = each HasFittingStart (λ k v is h. variable_starts k v h.kind);
      clocks = each (NamesClocks shape) variable_clocks;
    }
      where
        each : (Q : Variable → Type 0) → ((k : ℕ) (v : Variable) → is_variable t k ≡ true → IsVariable t k v → Q v) → All Q shape.variables
        each Q h = beside_passing (IsVariable t) (is_variable t) Q h (range_with_len 0 (length t)) shape.variables describes.variables
