-- What the files come to where the run of their system is to be held.
use Rattle.std.proofs.Common.{◌≡◌, ◌⊎◌, ℕ, ◌<◌, ◌≤◌, Bool, true, false, List, [], length, take, Option, Some, None, refl, sym, ap, ◌∙◌, subst, inl, inr, arith, true≢false}
use Rattle.std.specs.Prelude.{All, IfSome, IsSomeAnd, slice_get}
use Rattle.std.proofs.lemmas.Bool.{cases_lt}
use Rattle.std.proofs.lemmas.List.{take_all}
use Rattle.std.proofs.lemmas.Option.{slice_get_cases, slice_get_within}
use Rattle.sim_base.specs.declared.numbers.CompId.{CompId}
use Rattle.sim_base.specs.declared.read_book.ReadNote.{ReadNote}
use Rattle.sim_base.specs.Asking.{Asks}
use Rattle.sim_base.specs.Folder.{FolderView}
use Rattle.doc_tables.specs.Violations.{FindsLeast}
use Rattle.doc_tree.specs.declared.rule.Rule.TheVariants.{CannotBeHeld}
use Rattle.system_model.specs.declared.plan.Plan.{Plan}
use Rattle.system_model.specs.declared.system.Component.{Component}
use Rattle.system_model.specs.declared.system.Port.{Port}
use Rattle.system_model.specs.declared.system.System.{System}
use Rattle.system_model.specs.Sound.{IsSound}
use Rattle.system_model.specs.Text.{header_text}
use Rattle.system_model.proofs.CallerLemmas.{all_at, all_by_place, place_of}
use Rattle.trace_text.specs.Holding.{IsHoldable, KeepsFromHolding, PassesWith, header_up_to, held_header_max}
use Rattle.trace_text.proofs.HoldingLemmas.{passes_nowhere}
use Rattle.ssd_tree.specs.declared.tree.ComponentPart.{ComponentPart}
use Rattle.system_loading.specs.declared.outline.Outline.{Outline}
use Rattle.system_loading.specs.Assembly.{HaveSameParts}
use Rattle.system_loading.specs.Outlines.{place_in}
use Rattle.system_files.specs.declared.loaded.Loaded.{Loaded}
use Rattle.system_files.specs.declared.loading.LoadError.{LoadError}
use Rattle.system_files.specs.declared.loading.LoadError.TheVariants as end
use Rattle.system_files.specs.declared.named.FileFault.{FileFault}
use Rattle.system_files.specs.declared.named.FileFault.TheVariants.{Unread, Missing, TooBig, Broken}
use Rattle.system_files.specs.Documents.{told_in}
use Rattle.system_files.specs.Files.{Absent, AreSteady, Faulty, Flaw, Long}
use Rattle.system_files.specs.Holding.{ComesHeld, EndsHeld, FileFailsHeld, HoldsBack, Holdable, IsFirstUnheld, IsUnheld, LoadsHeld, MakesWhole, Refused, TellsUnheld, Unheld}
use Rattle.system_files.specs.Loads.{EndsLoading, Loads, TakenBindings}
use Rattle.system_files.specs.Order.{Agree, Comes, ComesAlone, Fails, Finding, Found, Search, Whole, asked_with}
use Rattle.system_files.specs.Steps.{IsLoaded, OutlinesAlone, TakesModels, TakesOutline}
use Rattle.system_files.proofs.EndLemmas.{all_reach}
use Rattle.system_files.proofs.OnlyLemmas.{ReachesBindingsAlone, outline_once, reached_bindings, whole_alone}

-- ---- who keeps a run from being held

-- the same parts keep the same runs from it
keeps_too : (one other : System) (plan : Plan) (i : ℕ) → HaveSameParts one other → KeepsFromHolding one.components one.ports plan i → KeepsFromHolding other.components other.ports plan i
keeps_too one other plan i same keeps =
    subst (λ (ports : List Port). KeepsFromHolding other.components ports plan i) same.1
    (subst (λ (components : List Component). KeepsFromHolding components one.ports plan i) same.0 keeps)

unheld_too : (o : Outline) (one other : System) (plan : Plan) (node : ℕ) → HaveSameParts one other → IsUnheld o one plan node → IsUnheld o other plan node
unheld_too o one other plan node same unheld = (unheld.0, (unheld.1.0, unheld.1.1, unheld.1.2, keeps_too one other plan unheld.0 same unheld.1.3))

turned : (one other : System) → HaveSameParts one other → HaveSameParts other one
turned one other same = (sym same.0, sym same.1)

-- a component that can't serialize its state is none of those that all can
serializes_not : (components : List Component) (i : ℕ) → All (λ (c : Component). c.shape.can_serialize_state ≡ true) components → IsSomeAnd (slice_get components i) (λ (c : Component). c.shape.can_serialize_state ≡ false) → ⊥
serializes_not components i all lacks = by (slice_get components i) refl lacks
  where
    by : (c : Option Component) → slice_get components i ≡ c → IsSomeAnd c (λ (c : Component). c.shape.can_serialize_state ≡ false) → ⊥
    by None at h = absurd h
    by (Some c) at h = true≢false (sym (all_at (λ (x : Component). x.shape.can_serialize_state ≡ true) components i c all at) ∙ h)

-- the whole header is that with the lines of all ports
whole_header : (system : System) (plan : Plan) → header_up_to system.components system.ports plan (length system.ports) ≡ header_text system plan.resolution plan.start plan.stop
whole_header system plan =
    ap (λ (ports : List Port). header_text (record system { ports = ports }) plan.resolution plan.start plan.stop) (take_all (length system.ports) system.ports (omega arith))

-- what can be held, none keeps from it
holdable_not : (system : System) (plan : Plan) (i : ℕ) → IsHoldable system plan → KeepsFromHolding system.components system.ports plan i → ⊥
holdable_not system plan i can (inl lacks) = serializes_not system.components i can.serializes lacks
holdable_not system plan i can (inr passes) =
    passes_nowhere system.components system.ports plan (length system.ports) passes.0
    (subst (λ (text : List ℕ). length text ≤ held_header_max) (sym (whole_header system plan)) can.header)
    (slice_get_within system.ports passes.0 passes.1.0 passes.1.1) passes.1.3

unheld_not : (o : Outline) (system : System) (plan : Plan) (node : ℕ) → IsHoldable system plan → IsUnheld o system plan node → ⊥
unheld_not o system plan node can unheld = holdable_not system plan unheld.0 can unheld.1.3

-- what was found of the header tells who keeps the run
module _ (components : List Component) (ports : List Port) (plan : Plan) (passing : Option CompId) (found : IfSome passing (λ (id : CompId). PassesWith components ports plan id.0))
    (only : (i : ℕ) → PassesWith components ports plan i → IsSomeAnd passing (λ (id : CompId). id.0 ≡ i)) where
  passing_is : (o : Option CompId) (i : ℕ) → passing ≡ o → IsSomeAnd o (λ (id : CompId). id.0 ≡ i) → PassesWith components ports plan i
  passing_is None i is h = absurd h
  passing_is (Some id) i is h = subst (PassesWith components ports plan) h (subst (λ (o : Option CompId). IfSome o (λ (id : CompId). PassesWith components ports plan id.0)) is found)

  pub held_back : (i : ℕ) (component : Component) → slice_get components i ≡ Some component → HoldsBack component passing i → KeepsFromHolding components ports plan i
  held_back i component at (inl lacks) = inl (subst (λ (c : Option Component). IsSomeAnd c (λ (c : Component). c.shape.can_serialize_state ≡ false)) (sym at) lacks)
  held_back i component at (inr passes) = inr (passing_is passing i refl passes)

  pub kept_back : (i : ℕ) (component : Component) → slice_get components i ≡ Some component → KeepsFromHolding components ports plan i → HoldsBack component passing i
  kept_back i component at (inl lacks) = inl (subst (λ (c : Option Component). IsSomeAnd c (λ (c : Component). c.shape.can_serialize_state ≡ false)) at lacks)
  kept_back i component at (inr passes) = inr (only i passes)

-- where there is no such component, the run can be held
module _ (o : Outline) (system : System) (plan : Plan) (sound : IsSound system) (same : length system.components ≡ length o.systems.components) (none : (node : ℕ) → IsUnheld o system plan node → ⊥) where
  keeps_none : (i : ℕ) → i < length system.components → KeepsFromHolding system.components system.ports plan i → ⊥
  keeps_none i within keeps =
      let part = part_at o.systems.components i (omega (arith, within, same)) in
      none part.0.node (i, (part.0, part.1, refl, keeps))
    where
      part_at : (parts : List ComponentPart) (i : ℕ) → i < length parts → (part : ComponentPart) × (slice_get parts i ≡ Some part)
      part_at parts i within = elim (slice_get_cases parts i).1 [
        | inl there ↦ (there.0, there.2)
        | inr past ↦ absurd (let far = past.0 in omega (arith, within, far))
      ]

  flag_is : (i : ℕ) (c : Component) → slice_get system.components i ≡ Some c → c.shape.can_serialize_state ≡ true
  flag_is i c at = by c.shape.can_serialize_state refl
    where
      by : (b : Bool) → c.shape.can_serialize_state ≡ b → c.shape.can_serialize_state ≡ true
      by true e = e
      by false e = absurd (keeps_none i (slice_get_within system.components i c at)
          (inl (subst (λ (x : Option Component). IsSomeAnd x (λ (c : Component). c.shape.can_serialize_state ≡ false)) (sym at) e)))

  serializes_all : All (λ (c : Component). c.shape.can_serialize_state ≡ true) system.components
  serializes_all = all_by_place (λ (c : Component). c.shape.can_serialize_state ≡ true) system.components flag_is

  pub holdable : (passing : Option CompId) → IfSome passing (λ (id : CompId). PassesWith system.components system.ports plan id.0) →
      (passing ≡ None → length (header_text system plan.resolution plan.start plan.stop) ≤ held_header_max) → IsHoldable system plan
  holdable None found fits = record { serializes = serializes_all; header = fits refl }
  holdable (Some id) found fits =
      let port = found.1.0 in
      let placed = place_of system sound found.0 port found.1.1 in
      absurd (keeps_none id.0 (subst (λ (n : ℕ). n < length system.components) found.1.2 (slice_get_within system.components port.component.0 _ placed.is.of)) (inr found))

-- ---- what is found is all that is found

-- the order of reading comes to a whole system
as_whole : (s : Search) (reads : List ReadNote) (o : Outline) (loaded : Loaded) (asked : List (List ℕ)) → MakesWhole s reads o loaded asked → Comes s reads asked (Found loaded)
as_whole s reads o loaded asked w = Whole o w.shapes w.given loaded _ _ w.reaches w.binds w.makes w.folders w.asked_is refl

module _ (s : Search) (plan : Plan) (reads : List ReadNote) (asked : List (List ℕ)) where
  -- a file that isn't taken isn't for a run that is to be held, too
  pub refused_only : (path : List ℕ) (flaw : Flaw) → ComesAlone s reads asked (Fails path flaw) → AreSteady reads → (others : List (List ℕ)) (other : Finding) →
      ComesHeld s plan reads others other → (asked ≡ others) × Agree (Fails path flaw) other
  refused_only path flaw alone steady others other (Refused path2 _ _ flaw2 comes is) =
      let agree = alone.only steady others (Fails path2 flaw2) comes in
      (agree.0, subst (Agree (Fails path flaw)) (sym is) agree.1)
  refused_only path flaw alone steady others other (Unheld o loaded node _ _ whole first is) = absurd (alone.only steady others (Found loaded) (as_whole s reads o loaded others whole)).1
  refused_only path flaw alone steady others other (Holdable loaded _ _ comes can is) = absurd (alone.only steady others (Found loaded) comes).1

  -- a system whose run can be held
  pub holdable_only : (loaded : Loaded) → ComesAlone s reads asked (Found loaded) → IsHoldable loaded.system plan → AreSteady reads → (others : List (List ℕ)) (other : Finding) →
      ComesHeld s plan reads others other → (asked ≡ others) × Agree (Found loaded) other
  holdable_only loaded alone can steady others other (Refused path2 _ _ flaw2 comes is) = absurd (alone.only steady others (Fails path2 flaw2) comes).1
  holdable_only loaded alone can steady others other (Unheld o loaded2 node _ _ whole first is) =
      let agree = alone.only steady others (Found loaded2) (as_whole s reads o loaded2 others whole) in
      absurd (unheld_not o loaded.system plan node can (unheld_too o loaded2.system loaded.system plan node (turned loaded.system loaded2.system agree.1.0) first.is))
  holdable_only loaded alone can steady others other (Holdable loaded2 _ _ comes can2 is) =
      let agree = alone.only steady others (Found loaded2) comes in
      (agree.0, subst (Agree (Found loaded)) (sym is) agree.1)

  -- one whose run can't
  module _ (o : Outline) (loaded : Loaded) (node : ℕ) (outline : OutlinesAlone s.subject s.directory reads o) (alone : ComesAlone s reads asked (Found loaded)) (first : IsFirstUnheld o loaded.system plan node) where
    same_node : (other : System) (at : ℕ) → HaveSameParts loaded.system other → IsFirstUnheld o other plan at → node ≡ at
    same_node other at same second = by (cases_lt node at)
      where
        by : (node < at) ⊎ (at ≤ node) → node ≡ at
        by (inl l) = absurd (second.first node l (unheld_too o loaded.system other plan node same first.is))
        by (inr g) = here (cases_lt at node)
          where
            here : (at < node) ⊎ (node ≤ at) → node ≡ at
            here (inl l) = absurd (first.first at l (unheld_too o other loaded.system plan at (turned loaded.system other same) second.is))
            here (inr h) = omega (arith, g, h)

    pub unheld_only : AreSteady reads → (others : List (List ℕ)) (other : Finding) → ComesHeld s plan reads others other →
        (asked ≡ others) × Agree (Fails (told_in s.directory o node) (Faulty CannotBeHeld (place_in o node) [])) other
    unheld_only steady others other (Refused path2 _ _ flaw2 comes is) = absurd (alone.only steady others (Fails path2 flaw2) comes).1
    unheld_only steady others other (Holdable loaded2 _ _ comes can is) =
        let agree = alone.only steady others (Found loaded2) comes in
        absurd (unheld_not o loaded2.system plan node can (unheld_too o loaded.system loaded2.system plan node agree.1.0 first.is))
    unheld_only steady others other (Unheld o2 loaded2 at _ _ whole second is) =
        let agree = alone.only steady others (Found loaded2) (as_whole s reads o2 loaded2 others whole) in
        let same : o ≡ o2 = outline_once s reads steady s.subject s.directory o o2 outline whole.reaches.reaches.outline in
        let node_is : node ≡ at = same_node loaded2.system at agree.1.0 (subst (λ (x : Outline). IsFirstUnheld x loaded2.system plan at) (sym same) second) in (
          agree.0,
          subst (Agree (Fails (told_in s.directory o node) (Faulty CannotBeHeld (place_in o node) []))) (sym is)
              (ap (told_in s.directory o) node_is ∙ ap (λ (x : Outline). told_in s.directory x at) same, (refl, ap (place_in o) node_is ∙ ap (λ (x : Outline). place_in x at) same)),
        )

-- ---- the answers

-- a loading that ends before the system is known
module _ (s : Search) (plan : Plan) where
  refused_held : (path : List ℕ) (flaw : Flaw) (old new : FolderView) → Loads s (Fails path flaw) old new → LoadsHeld s plan (Fails path flaw) old new
  refused_held path flaw old new loads = record {
    reads = loads.reads;
    asked = loads.asked;
    comes = Refused path _ _ flaw loads.comes.comes refl;
    only = refused_only s plan loads.reads loads.asked path flaw loads.comes;
    asks = loads.asks;
  }

  pub ends_held : (ended : LoadError) (old new : FolderView) → EndsLoading s ended old new → EndsHeld s plan ended old new
  ends_held end.Memory old new h = h
  ends_held (end.File file Unread) old new h = h
  ends_held (end.File file Missing) old new h = refused_held file.path Absent old new h
  ends_held (end.File file TooBig) old new h = refused_held file.path Long old new h
  ends_held (end.File file (Broken rule place ports)) old new h = refused_held file.path (Faulty rule place ports) old new h

  -- one whose system is known
  module _ (o : Outline) (old mid : FolderView) (outline : TakesOutline s.subject s.directory o old mid) (loaded : Loaded) (new : FolderView) (takes : TakesModels s.per_second s.directory o loaded mid new) where
    reach : (reads : List ReadNote) × ReachesBindingsAlone s reads o takes.shapes o.systems.bindings takes.given [] × Asks reads (asked_with s o o.systems.bindings) old new
    reach = all_reach s o old mid outline takes.shapes takes.given new takes.takes

    alone : ComesAlone s reach.0 (asked_with s o o.systems.bindings) (Found loaded)
    alone = whole_alone s reach.0 o takes.shapes takes.given reach.1 loaded takes.is

    pub holdable_loads : IsHoldable loaded.system plan → LoadsHeld s plan (Found loaded) old new
    holdable_loads can = record {
      reads = reach.0;
      asked = asked_with s o o.systems.bindings;
      comes = Holdable loaded _ _ alone.comes can refl;
      only = holdable_only s plan reach.0 (asked_with s o o.systems.bindings) loaded alone can;
      asks = reach.2;
    }

    unheld_loads : (node : ℕ) → IsFirstUnheld o loaded.system plan node → LoadsHeld s plan (Fails (told_in s.directory o node) (Faulty CannotBeHeld (place_in o node) [])) old new
    unheld_loads node first = record {
      reads = reach.0;
      asked = asked_with s o o.systems.bindings;
      comes = Unheld o loaded node _ _
          (record {
            shapes = takes.shapes;
            given = takes.given;
            reaches = reached_bindings s reach.0 o takes.shapes o.systems.bindings takes.given [] reach.1;
            binds = takes.is.binds.is;
            makes = takes.is.makes.is;
            folders = takes.is.folders;
            asked_is = refl;
          }) first refl;
      only = unheld_only s plan reach.0 (asked_with s o o.systems.bindings) o loaded node reach.1.outline alone first;
      asks = reach.2;
    }

    pub unheld_ends : (node : ℕ) (ended : LoadError) → IsFirstUnheld o loaded.system plan node → TellsUnheld s.directory o node ended → EndsHeld s plan ended old new
    unheld_ends node (end.File file fault) first tells =
        subst (λ (x : FileFault). FileFailsHeld s plan x file.path old new) (sym tells.1)
        (subst (λ (p : List ℕ). LoadsHeld s plan (Fails p (Faulty CannotBeHeld (place_in o node) [])) old new) (sym tells.0) (unheld_loads node first))
    unheld_ends node end.Memory first tells = record {
      reads = reach.0;
      asked = asked_with s o o.systems.bindings;
      some = TakenBindings o takes.shapes o.systems.bindings takes.given [] _ (reached_bindings s reach.0 o takes.shapes o.systems.bindings takes.given [] reach.1) refl;
      asks = reach.2;
    }
