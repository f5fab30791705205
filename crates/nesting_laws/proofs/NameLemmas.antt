-- Two documents put together have the full names of their Components, and name parts that are there.
use Rattle.std.proofs.Common.{◌≡◌, ◌∙◌, inl, inr, ℕ, ◌+◌, ◌-◌, ◌<◌, ◌≤◌, ◌==◌, nat_le, nat_lt, true, false, if◌then◌else◌, List, [], ◌∷◌, ◌++◌, length, map, take, drop, Some, refl, sym, ap, subst, arith, slice_get, append_assoc, All}
use Rattle.std.specs.Option.{option_map}
use Rattle.std.proofs.lemmas.Bool.Decides.{nat_tests}
use Rattle.std.proofs.lemmas.Option.{slice_get_within}
use Rattle.std.proofs.lemmas.List.{length-map}
use Rattle.std.proofs.lemmas.List.Elements.{All-append, All-drop, All-map, All-take, All-weaker}
use Rattle.ssd_tree.specs.declared.tree.Binding.{Binding}
use Rattle.ssd_tree.specs.declared.tree.ComponentPart.{ComponentPart}
use Rattle.ssd_tree.specs.declared.tree.Owner.{Owner}
use Rattle.ssd_tree.specs.declared.tree.Owner.TheVariants as owner
use Rattle.ssd_tree.specs.declared.tree.SystemPart.{SystemPart}
use Rattle.ssd_tree.specs.declared.tree.SystemTree.{SystemTree}
use Rattle.ssd_tree.specs.Named.{IsInScope, IsNamedTree, IsOwner, IsScope, Outermost, Inner}
use Rattle.nested_documents.specs.declared.seam.Frame.{Frame}
use Rattle.nested_documents.specs.declared.seam.Seam.{Seam}
use Rattle.nested_documents.specs.declared.seam.Side.TheVariants as side
use Rattle.nested_documents.specs.Inlining.{bindings_before, inlined, put, seam_of, systems_before}
use Rattle.nested_documents.specs.Moves.{moved_binding, moved_component_part, moved_owner, moved_parent, moved_system, moved_system_part}
use Rattle.structure_laws.specs.Orderly.{IsOrderly}
use Rattle.nesting_laws.proofs.OrderlyLemmas as o
use Rattle.nested_documents.proofs.PutLemmas.{length_inlined, length_put}
use Rattle.std.proofs.lemmas.List.Sums.{count_by-le-length}

all_put : {A : Type 0} (P : A → Type 0) (at gone : ℕ) (ys xs : List A) → All P ys → All P xs → All P (put at gone ys xs)
all_put P at gone ys xs inside all =
    All-append P (take at xs) (ys ++ drop (at + gone) xs) (All-take P at xs all) (All-append P ys (drop (at + gone) xs) inside (All-drop P (at + gone) xs all))

module _ (outer inner : SystemTree) (k : ℕ) (c : ComponentPart) (f : Frame) (elements count : ℕ) (out : IsOrderly count outer) (within : IsOrderly elements inner) (at : slice_get outer.components k ≡ Some c) where
  abbrev s : Seam
  s = seam_of outer k c inner elements

  abbrev p : ℕ
  p = systems_before c.node outer.systems

  abbrev whole : SystemTree
  whole = inlined outer k c f inner elements

  -- ---- names

  pub scope_outer : (i : ℕ) (scope : List ℕ) → IsScope outer i scope → IsScope whole (moved_system s side.Outer i) scope
  scope_outer i scope (Outermost _ part _ there none e) =
      Outermost (moved_system s side.Outer i) (moved_system_part s f side.Outer part) scope (o.outer_at outer inner k c f elements count i part there) (ap (option_map (moved_system s side.Outer)) none) e
  scope_outer i scope (Inner _ above part names _ there up deep e) =
      Inner (moved_system s side.Outer i) (moved_system s side.Outer above) (moved_system_part s f side.Outer part) names scope (o.outer_at outer inner k c f elements count i part there) (ap (option_map (moved_system s side.Outer)) up) (scope_outer above names deep) e

  module _ (outer_scope : List ℕ) (stands : IsScope outer c.system outer_scope) (name_is : f.name ≡ outer_scope ++ f.own_name) where
    -- the System that the Component stands in stays where it is
    scope_above : IsScope whole c.system outer_scope
    scope_above =
        let less = o.system_before outer inner k c f elements count out within at in
        let e : moved_system s side.Outer c.system ≡ c.system = o.prefix p (length inner.systems) c.system less in
        subst (λ (m : ℕ). IsScope whole m outer_scope) e (scope_outer c.system outer_scope stands)

    pub scope_inner : (i : ℕ) (scope : List ℕ) → IsScope inner i scope → IsScope whole (i + p) (f.name ++ 46 ∷ scope)
    scope_inner i scope (Outermost _ part _ there none e) =
        let name : f.name ++ 46 ∷ [] ≡ outer_scope ++ (f.own_name ++ 46 ∷ []) = ap (λ (xs : List ℕ). xs ++ 46 ∷ []) name_is ∙ append_assoc outer_scope f.own_name (46 ∷ []) in
        let is_name : (moved_system_part s f side.Inner part).name ≡ f.own_name = rw none refl in
        let grown : f.name ++ 46 ∷ scope ≡ outer_scope ++ ((moved_system_part s f side.Inner part).name ++ 46 ∷ []) = rw (e, is_name) name in
        Inner (i + p) c.system (moved_system_part s f side.Inner part) outer_scope (f.name ++ 46 ∷ scope) (o.inner_at outer inner k c f elements count i part there) (ap (moved_parent s side.Inner) none) scope_above grown
    scope_inner i scope (Inner _ above part names _ there up deep e) =
        let is_name : (moved_system_part s f side.Inner part).name ≡ part.name = rw up refl in
        let grown : f.name ++ 46 ∷ scope ≡ (f.name ++ 46 ∷ names) ++ ((moved_system_part s f side.Inner part).name ++ 46 ∷ []) = rw (e, is_name) (sym (append_assoc f.name (46 ∷ names) (part.name ++ 46 ∷ []))) in
        Inner (i + p) (above + p) (moved_system_part s f side.Inner part) (f.name ++ 46 ∷ names) (f.name ++ 46 ∷ scope) (o.inner_at outer inner k c f elements count i part there) (ap (moved_parent s side.Inner) up) (scope_inner above names deep) grown

    our_scope : (x : ComponentPart) → IsInScope outer x → IsInScope whole (moved_component_part s f side.Outer x)
    our_scope x b = record {
      scope = b.scope;
      scope_is = scope_outer x.system b.scope b.scope_is;
      own = b.own;
      is = b.is;
    }

    their_scope : (x : ComponentPart) → IsInScope inner x → IsInScope whole (moved_component_part s f side.Inner x)
    their_scope x b = record {
      scope = f.name ++ 46 ∷ b.scope;
      scope_is = scope_inner x.system b.scope b.scope_is;
      own = b.own;
      is = ap (λ (xs : List ℕ). f.name ++ 46 ∷ xs) b.is ∙ sym (append_assoc f.name (46 ∷ b.scope) b.own);
    }

    pub whole_scopes : All (IsInScope outer) outer.components → All (IsInScope inner) inner.components → All (IsInScope whole) whole.components
    whole_scopes ours theirs =
        all_put (IsInScope whole) k 1 (map (moved_component_part s f side.Inner) inner.components) (map (moved_component_part s f side.Outer) outer.components)
        (All-map (IsInScope whole) (moved_component_part s f side.Inner) inner.components (All-weaker (IsInScope inner) (λ x. IsInScope whole (moved_component_part s f side.Inner x)) their_scope inner.components theirs))
        (All-map (IsInScope whole) (moved_component_part s f side.Outer) outer.components (All-weaker (IsInScope outer) (λ x. IsInScope whole (moved_component_part s f side.Outer x)) our_scope outer.components ours))

  -- ---- owners

  systems_long : length whole.systems ≡ length outer.systems + length inner.systems
  systems_long =
      let n = length-map outer.systems (moved_system_part s f side.Outer) in
      let m = length-map inner.systems (moved_system_part s f side.Inner) in
      let h = length_put p 0 (map (moved_system_part s f side.Inner) inner.systems) (map (moved_system_part s f side.Outer) outer.systems) (omega (arith, n, counted)) in
      omega (arith, h, n, m)
    where
      counted : p ≤ length outer.systems
      counted = count_by-le-length (λ (x : SystemPart). nat_lt x.node c.node) outer.systems

  fewer : p ≤ length outer.systems
  fewer = count_by-le-length (λ (x : SystemPart). nat_lt x.node c.node) outer.systems

  there : k < length outer.components
  there = slice_get_within outer.components k c at

  components_long : length whole.components ≡ (length outer.components - 1) + length inner.components
  components_long = length_inlined outer k c f inner elements there

  pub our_owner : (x : Owner) → IsOwner outer x → IsOwner whole (moved_owner s side.Outer x)
  our_owner (owner.System place) less = elim (o.either place p) [
    | inl a ↦ let e = o.prefix p (length inner.systems) place a in let l = systems_long in omega (arith, e, l, less)
    | inr b ↦ let e = o.back p (length inner.systems) place b in let l = systems_long in omega (arith, e, l, less)
  ]
  our_owner (owner.Component place) less =
      elim (place == k) as (λ b. (place == k) ≡ b → IsOwner whole (moved_owner s side.Outer (owner.Component place))) [
        | true ↦ λ e.
            let l = systems_long in
            let g = fewer in
            let h = slice_get_within inner.systems 0 within.root.0 within.root.1 in
            rw e (omega (arith, l, g, h))
        | false ↦ λ e. rw e (other e)
      ] refl
    where
      other : (place == k) ≡ false → IsOwner whole (owner.Component (if nat_le place k then place else (place - 1) + length inner.components))
      other e =
          let l = components_long in
          let g = there in
          elim (nat_le place k) as (λ b. nat_le place k ≡ b → (if b then place else (place - 1) + length inner.components) < length whole.components) [
            | true ↦ λ h. let below : place < k = grind (arith, nat_tests) in omega (arith, l, g, below)
            | false ↦ λ h. let above : k < place = grind (arith, nat_tests) in omega (arith, l, above, less)
          ] refl

  pub their_owner : (x : Owner) → IsOwner inner x → IsOwner whole (moved_owner s side.Inner x)
  their_owner (owner.System place) less = let l = systems_long in let g = fewer in omega (arith, l, g, less)
  their_owner (owner.Component place) less = let l = components_long in let g = there in omega (arith, l, g, less)

  pub whole_owners : All (λ (b : Binding). IsOwner outer b.owner) outer.bindings → All (λ (b : Binding). IsOwner inner b.owner) inner.bindings → All (λ (b : Binding). IsOwner whole b.owner) whole.bindings
  whole_owners ours theirs =
      all_put (λ (b : Binding). IsOwner whole b.owner) (bindings_before c.node outer.bindings) 0 (map (moved_binding s f side.Inner) inner.bindings) (map (moved_binding s f side.Outer) outer.bindings)
      (All-map (λ (b : Binding). IsOwner whole b.owner) (moved_binding s f side.Inner) inner.bindings (All-weaker (λ (b : Binding). IsOwner inner b.owner) (λ (b : Binding). IsOwner whole (moved_owner s side.Inner b.owner)) (λ b. their_owner b.owner) inner.bindings theirs))
      (All-map (λ (b : Binding). IsOwner whole b.owner) (moved_binding s f side.Outer) outer.bindings (All-weaker (λ (b : Binding). IsOwner outer b.owner) (λ (b : Binding). IsOwner whole (moved_owner s side.Outer b.owner)) (λ b. our_owner b.owner) outer.bindings ours))

  system_within : All (λ (x : ComponentPart). x.system < length outer.systems) outer.components → All (λ (x : ComponentPart). x.system < length inner.systems) inner.components → All (λ (x : ComponentPart). x.system < length whole.systems) whole.components
  system_within ours theirs =
      all_put (λ (x : ComponentPart). x.system < length whole.systems) k 1 (map (moved_component_part s f side.Inner) inner.components) (map (moved_component_part s f side.Outer) outer.components)
      (All-map (λ (x : ComponentPart). x.system < length whole.systems) (moved_component_part s f side.Inner) inner.components (All-weaker (λ (x : ComponentPart). x.system < length inner.systems) (λ (x : ComponentPart). moved_system s side.Inner x.system < length whole.systems) (λ x. their_owner (owner.System x.system)) inner.components theirs))
      (All-map (λ (x : ComponentPart). x.system < length whole.systems) (moved_component_part s f side.Outer) outer.components (All-weaker (λ (x : ComponentPart). x.system < length outer.systems) (λ (x : ComponentPart). moved_system s side.Outer x.system < length whole.systems) (λ x. our_owner (owner.System x.system)) outer.components ours))

  -- the whole is a tree of names, as both documents are
  pub whole_named : IsNamedTree outer → IsNamedTree inner → (scope : List ℕ) → IsScope outer c.system scope → f.name ≡ scope ++ f.own_name → IsNamedTree whole
  whole_named ours theirs scope stands name_is = record {
    outer = λ j above x there' up. o.whole_outer outer inner k c f elements count out within at j above x there' up;
    within = system_within ours.within theirs.within;
    scopes = whole_scopes scope stands name_is ours.scopes theirs.scopes;
    owners = whole_owners ours.owners theirs.owners;
  }
