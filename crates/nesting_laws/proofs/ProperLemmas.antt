-- A document more: what is put together stays proper.
use Rattle.std.proofs.Common.{◌≡◌, ◌∙◌, ◌⊎◌, ℕ, zero, suc, ◌+◌, ◌-◌, ◌^◌, ◌<◌, ◌≤◌, nat_le, false, List, [], ◌∷◌, ◌++◌, length, map, take, drop, Some, None, refl, sym, ap, subst, arith, slice_get, append_assoc, length-append, length-drop, All}
use Rattle.std.proofs.lemmas.Bool.Decides.{nat_tests}
use Rattle.std.proofs.lemmas.Option.{same_Some, slice_get_within}
use Rattle.std.proofs.lemmas.List.{length-map, length-take}
use Rattle.std.proofs.lemmas.List.Elements.{All-append, All-cons, All-drop, All-head, All-map, All-nil, All-tail, All-take, All-weaker}
use Rattle.ssd_tree.specs.declared.tree.ComponentPart.{ComponentPart}
use Rattle.ssd_tree.specs.declared.tree.Connector.{Connector}
use Rattle.ssd_tree.specs.declared.tree.NestedComponent.{NestedComponent}
use Rattle.ssd_tree.specs.declared.tree.Setting.{Setting}
use Rattle.ssd_tree.specs.declared.tree.SystemTree.{SystemTree}
use Rattle.ssd_tree.specs.Lists.{AreBetween, places_of}
use Rattle.ssd_tree.specs.Named.{IsNamedTree, IsOwner, IsScope}
use Rattle.ssd_tree.specs.Sources.{LeadsDown}
use Rattle.nested_documents.specs.declared.components.Waiting.{Waiting}
use Rattle.nested_documents.specs.declared.numbers.Place.{Place}
use Rattle.nested_documents.specs.declared.seam.Frame.{Frame}
use Rattle.nested_documents.specs.declared.seam.Seam.{Seam}
use Rattle.nested_documents.specs.declared.seam.Side.TheVariants as side
use Rattle.nested_documents.specs.Between.{waiting_places}
use Rattle.nested_documents.specs.declared.nest.TheConstants.{OUTERMOST}
use Rattle.nested_documents.specs.declared.nest.Next.TheVariants as next
use Rattle.nested_documents.specs.Inlining.{inlined, own_connectors, seam_of}
use Rattle.nested_documents.specs.Moves.{moved_component, moved_component_part, path_below}
use Rattle.nested_documents.specs.Nest.{HoldsOnly, IsAdded, IsNext, WaitsFirst, lacking_in, moved_waiting, setting_in, waiting_from}
use Rattle.nested_documents.specs.Numbers.{run, with_elements}
use Rattle.nested_documents.specs.States.{Document, Gathered}
use Rattle.nested_documents.proofs.BetweenLemmas.{places_top}
use Rattle.nested_documents.proofs.NestLemmas.{placed_added, rest_after}
use Rattle.nested_documents.proofs.PutLemmas.{length_inlined}
use Rattle.structure_laws.specs.Orderly.{IsOrderly}
use Rattle.structure_laws.specs.OwnNames.{HasOwnName}
use Rattle.flatten.specs.Given.{IsWholeTree}
use Rattle.nesting_laws.specs.Proper.{AreBelow, HasEnds, HaveSources, IsProper, IsProperDocument}
use Rattle.nesting_laws.proofs.FilledLemmas as filled
use Rattle.nesting_laws.proofs.NameLemmas as names
use Rattle.nesting_laws.proofs.PathLemmas.{leads_below, leads_folder}
use Rattle.nesting_laws.proofs.OrderlyLemmas as o
use Rattle.nesting_laws.proofs.PlaceLemmas.{put_back, put_inside}

-- ---- elements

length_run : (d n c : ℕ) → length (run d n c) ≡ c
unfolding run
length_run d n zero = refl
length_run d n (suc c) = ap suc (length_run d (suc n) c)

length_with : (at document count : ℕ) (elements : List Place) → length (with_elements at document count elements) ≡ length elements + count
length_with at document count elements =
    let a = length-append (take at elements) (run document 0 count ++ drop at elements) in
    let b = length-append (run document 0 count) (drop at elements) in
    let r = length_run document 0 count in
    let d = length-drop at elements in
    let t = length-take at elements in
    omega (arith, a, b, r, d, t)

-- ---- Components that wait

after_all : (low high : ℕ) (ws : List Waiting) → AreBetween low high (waiting_places ws) → All (λ (w : Waiting). low ≤ w.component) ws
after_all low high [] b = All-nil (λ (w : Waiting). low ≤ w.component)
after_all low high (w ∷ ws) b =
    let h = b.0 in
    All-cons (λ (v : Waiting). low ≤ v.component) w ws h
    (All-weaker (λ (v : Waiting). suc w.component ≤ v.component) (λ (v : Waiting). low ≤ v.component) (λ v le. omega (arith, h, le)) ws (after_all (suc w.component) high ws b.1.1))

both_all : {A : Type 0} (P Q : A → Type 0) (xs : List A) → All P xs → All Q xs → All (λ x. P x × Q x) xs
both_all P Q xs p q = λ k d less. (p k d less, q k d less)

module _ (outer inner : SystemTree) (k : ℕ) (c : ComponentPart) (f : Frame) (elements count : ℕ) (out : IsOrderly count outer) (within : IsOrderly elements inner) (at : slice_get outer.components k ≡ Some c) (scope : List ℕ) (stands : IsScope outer c.system scope) (name_is : f.name ≡ scope ++ f.own_name) where
  abbrev s : Seam
  s = seam_of outer k c inner elements

  abbrev whole : SystemTree
  whole = inlined outer k c f inner elements

  abbrev our : ComponentPart → ComponentPart
  our x = moved_component_part s f side.Outer x

  abbrev their : ComponentPart → ComponentPart
  their x = moved_component_part s f side.Inner x

  room : k < length (map our outer.components)
  room = (let h = slice_get_within outer.components k c at in let n = length-map outer.components our in omega (arith, h, n))

  pub inner_named : (place : ℕ) (own : List ℕ) → HasOwnName inner place own → HasOwnName whole (moved_component s side.Inner place) own
  inner_named place own h =
      let r = room in
      let le : k ≤ length (map our outer.components) = omega (arith, r) in
      record {
        component = their h.component;
        at = put_inside k 1 (map their inner.components) (map our outer.components) place (their h.component) le (o.remap their inner.components place h.component h.at);
        scope = f.name ++ 46 ∷ h.scope;
        scope_is = names.scope_inner outer inner k c f elements count out within at scope stands name_is h.component.system h.scope h.scope_is;
        is = ap (λ (xs : List ℕ). f.name ++ 46 ∷ xs) h.is ∙ sym (append_assoc f.name (46 ∷ h.scope) own);
      }

  moved_after : (place : ℕ) → k < place → moved_component s side.Outer place ≡ (place - 1) + length inner.components
  moved_after place less = let e : nat_le place k ≡ false = grind (arith, nat_tests) in rw e refl

  pub outer_named : (place : ℕ) (own : List ℕ) → k < place → HasOwnName outer place own → HasOwnName whole (moved_component s side.Outer place) own
  outer_named place own less h =
      let r = room in
      let le : k ≤ length (map our outer.components) = omega (arith, r) in
      let past : k + 1 ≤ place = omega (arith, less) in
      let n = length-map inner.components their in
      let there = put_back k 1 (map their inner.components) (map our outer.components) place (our h.component) le past (o.remap our outer.components place h.component h.at) in
      let e : (place - 1) + length (map their inner.components) ≡ moved_component s side.Outer place = ap (λ (m : ℕ). (place - 1) + m) n ∙ sym (moved_after place less) in
      record {
        component = our h.component;
        at = subst (λ (m : ℕ). slice_get whole.components m ≡ Some (our h.component)) e there;
        scope = h.scope;
        scope_is = names.scope_outer outer inner k c f elements count out within at h.component.system h.scope h.scope_is;
        is = h.is;
      }

-- ---- the outermost document, and a document more

both_names : (cs : List ComponentPart) → All (λ (c : ComponentPart). 0 < length c.name) cs → All (λ (c : ComponentPart). 0 + length c.name ≤ 2 ^ 24) cs → All (λ (c : ComponentPart). (0 < length c.name) × (length c.name ≤ 2 ^ 24)) cs
both_names cs some short = λ k d less. (some k d less, (let h = short k d less in omega (arith, h)))

held_run : (document node count limit : ℕ) → document < limit → All (λ (x : Place). x.document < limit) (run document node count)
unfolding run
held_run document node zero limit less = All-nil (λ (x : Place). x.document < limit)
held_run document node (suc count) limit less = All-cons (λ (x : Place). x.document < limit) (record { document = document; node = node }) (run document (suc node) count) less (held_run document (suc node) count limit less)

-- those of a document more, and those that were there
held_with : (at document count : ℕ) (elements : List Place) → All (λ (x : Place). x.document < document) elements → All (λ (x : Place). x.document < suc document) (with_elements at document count elements)
held_with at document count elements all =
    let P : Place → Type 0 = λ (x : Place). x.document < suc document in
    let more : All P elements = All-weaker (λ (x : Place). x.document < document) P (λ x h. omega (arith, h)) elements all in
    All-append P (take at elements) (run document 0 count ++ drop at elements) (All-take P at elements more)
    (All-append P (run document 0 count) (drop at elements) (held_run document 0 count (suc document) (omega arith)) (All-drop P at elements more))

-- what the next document is told of those before
told_before : (old : Gathered) (path : List ℕ) (s : Setting) (c : ComponentPart) (w : Waiting) (rest : List Waiting) → IsNext old (next.Document path s) → WaitsFirst old w rest c → s ≡ setting_in old c
told_before old path s c w rest comes first =
    let v = comes.0 in
    let same : v ≡ w = same_head v w comes.1 rest (sym comes.3.waits ∙ first.waits) in
    let part : comes.2 ≡ c = same_Some comes.2 c (sym comes.3.at ∙ (ap (λ (x : Waiting). slice_get old.tree.components x.component) same ∙ first.at)) in
    comes.6 ∙ ap (setting_in old) part
  where
    same_head : (v w : Waiting) (vs ws : List Waiting) → v ∷ vs ≡ w ∷ ws → v ≡ w
    same_head v w vs ws e = cc

pub proper_top : (d : Document) (g : Gathered) → HoldsOnly d g → IsProperDocument OUTERMOST d → IsProper g
proper_top d g top p =
    let tree : d.tree ≡ g.tree = sym top.tree in
    let long : d.elements ≡ length g.elements = sym (ap (λ (xs : List Place). length xs) top.elements ∙ length_run 0 0 d.elements) in
    let places : places_of d.nested ≡ waiting_places g.waiting = sym (ap (λ (ws : List Waiting). waiting_places ws) top.waiting ∙ places_top d.nested) in
    record {
      orderly = subst (λ (n : ℕ). IsOrderly n g.tree) long (subst (IsOrderly d.elements) tree p.orderly);
      named = subst IsNamedTree tree p.named;
      placed = subst (λ (ks : List ℕ). AreBetween 0 (length g.tree.components) ks) places (subst (λ (t : SystemTree). AreBetween 0 (length t.components) (places_of d.nested)) tree p.placed);
      waiting = subst (λ (ws : List Waiting). All (λ (w : Waiting). HasOwnName g.tree w.component w.own_name) ws) (sym top.waiting)
          (All-map (λ (w : Waiting). HasOwnName g.tree w.component w.own_name) (waiting_from 0 0 1) d.nested
          (All-weaker (λ (x : NestedComponent). HasOwnName g.tree x.component x.own_name) (λ (x : NestedComponent). HasOwnName g.tree (x.component + 0) x.own_name)
          (λ x h. let e : x.component ≡ x.component + 0 = omega arith in subst (λ (k : ℕ). HasOwnName g.tree k x.own_name) e h) d.nested
          (subst (λ (t : SystemTree). All (λ (x : NestedComponent). HasOwnName t x.component x.own_name) d.nested) tree p.nested)));
      few = (let few = p.whole.few in let e : length g.tree.components ≡ length d.tree.components = ap (λ (t : SystemTree). length t.components) top.tree in let m : length g.waiting ≡ length d.nested = ap (λ (ws : List Waiting). length ws) top.waiting ∙ length-map d.nested (waiting_from 0 0 1) in omega (arith, few, e, m));
      names = subst (λ (t : SystemTree). All (λ (c : ComponentPart). (0 < length c.name) × (length c.name ≤ 2 ^ 24)) t.components) tree (both_names d.tree.components p.whole.named p.whole.short);
      owners = subst (λ (t : SystemTree). All (λ (k : Connector). IsOwner t k.owner) t.connectors) tree p.whole.owners;
      ends = λ none. subst (λ (t : SystemTree). All (HasEnds t) t.connections) tree p.whole.ends;
      parts = subst (λ (n : ℕ). AreBelow n g.tree) long (subst (AreBelow d.elements) tree p.parts);
      sources = subst HaveSources tree p.sources;
      held = subst (λ (n : ℕ). All (λ (x : Place). x.document < n) g.elements) (sym top.documents)
          (subst (λ (xs : List Place). All (λ (x : Place). x.document < 1) xs) (sym top.elements) (held_run 0 0 d.elements 1 (omega arith)));
    }

-- the source of a Component leads down
component_leads : (t : SystemTree) (k : ℕ) (c : ComponentPart) → slice_get t.components k ≡ Some c → HaveSources t → LeadsDown c.source
component_leads t k c at all = filled.at_all (λ (x : ComponentPart). LeadsDown x.source) t.components k c all at

sources_below : (outer inner : SystemTree) (k : ℕ) (c : ComponentPart) (f : Frame) (elements : ℕ) → HaveSources outer → HaveSources inner → (f.folder ≡ []) ⊎ LeadsDown f.folder → HaveSources (inlined outer k c f inner elements)
sources_below outer inner k c f elements ours theirs folder =
    let s = seam_of outer k c inner elements in
    let P : ComponentPart → Type 0 = λ (x : ComponentPart). LeadsDown x.source in
    filled.all_put P k 1 (map (moved_component_part s f side.Inner) inner.components) (map (moved_component_part s f side.Outer) outer.components)
    (All-map P (moved_component_part s f side.Inner) inner.components (All-weaker P (λ (x : ComponentPart). LeadsDown (path_below f.folder x.source)) (λ x down. leads_below f.folder x.source folder down) inner.components theirs))
    (All-map P (moved_component_part s f side.Outer) outer.components (All-weaker P (λ (x : ComponentPart). LeadsDown x.source) (λ x down. down) outer.components ours))

-- the Component that waits first, by its own name
first_named : (g : Gathered) (w : Waiting) (rest : List Waiting) (c : ComponentPart) → g.waiting ≡ w ∷ rest → slice_get g.tree.components w.component ≡ Some c → All (λ (v : Waiting). HasOwnName g.tree v.component v.own_name) g.waiting
    → (scope : List ℕ) × IsScope g.tree c.system scope × (c.name ≡ scope ++ w.own_name)
first_named g w rest c waits at all =
    let here : HasOwnName g.tree w.component w.own_name =
    All-head (λ (v : Waiting). HasOwnName g.tree v.component v.own_name) w rest (subst (λ (ws : List Waiting). All (λ (v : Waiting). HasOwnName g.tree v.component v.own_name) ws) waits all) in
    let same : here.component ≡ c = same_Some here.component c (sym here.at ∙ at) in
    (here.scope, subst (λ (x : ComponentPart). IsScope g.tree x.system here.scope) same here.scope_is, subst (λ (x : ComponentPart). x.name ≡ here.scope ++ w.own_name) same here.is)

pub proper_added : (old : Gathered) (path : List ℕ) (t : Setting) (d : Document) (new : Gathered) → IsNext old (next.Document path t) → IsAdded old d new → IsProper old → IsProperDocument t d → IsProper new
proper_added old path t d new comes added p q =
    let w = added.next in
    let k = w.component in
    let c = added.component in
    let f = added.frame in
    let at = added.first.at in
    let count = length old.elements in
    let own = first_named old w added.rest c added.first.waits at p.waiting in
    let name_is : f.name ≡ own.0 ++ f.own_name = added.is_frame.name ∙ (own.2 ∙ ap (λ (xs : List ℕ). own.0 ++ xs) (sym added.is_frame.own_name)) in
    let s = seam_of old.tree k c d.tree d.elements in
    let whole = inlined old.tree k c f d.tree d.elements in
    let tree : whole ≡ new.tree = sym added.tree in
    let long : count + d.elements ≡ length new.elements = sym (ap (λ (xs : List Place). length xs) added.elements ∙ length_with c.node old.documents d.elements old.elements) in
    let less : k < length old.tree.components = slice_get_within old.tree.components k c at in
    let before : t ≡ setting_in old c = told_before old path t c w added.rest comes added.first in
    let waits_long : length new.waiting ≡ length d.nested + length added.rest =
    (let h = ap (λ (ws : List Waiting). length ws) added.waiting in
    let l = length-append (map (waiting_from k old.documents (suc w.level)) d.nested) (map (moved_waiting s) added.rest) in
    let m = length-map d.nested (waiting_from k old.documents (suc w.level)) in
    let n = length-map added.rest (moved_waiting s) in
    omega (arith, h, l, m, n)) in
    let after = rest_after (length old.tree.components) old.waiting w added.rest added.first.waits p.placed in
    let rest_names : All (λ (v : Waiting). HasOwnName old.tree v.component v.own_name) added.rest =
    All-tail (λ (v : Waiting). HasOwnName old.tree v.component v.own_name) w added.rest (subst (λ (ws : List Waiting). All (λ (v : Waiting). HasOwnName old.tree v.component v.own_name) ws) added.first.waits p.waiting) in
    let theirs : All (λ (v : Waiting). HasOwnName whole v.component v.own_name) (map (waiting_from k old.documents (suc w.level)) d.nested) =
    All-map (λ (v : Waiting). HasOwnName whole v.component v.own_name) (waiting_from k old.documents (suc w.level)) d.nested
    (All-weaker (λ (x : NestedComponent). HasOwnName d.tree x.component x.own_name) (λ (x : NestedComponent). HasOwnName whole (moved_component s side.Inner x.component) x.own_name)
    (λ x. inner_named old.tree d.tree k c f d.elements count p.orderly q.orderly at own.0 own.1 name_is x.component x.own_name) d.nested q.nested) in
    let ours : All (λ (v : Waiting). HasOwnName whole v.component v.own_name) (map (moved_waiting s) added.rest) =
    All-map (λ (v : Waiting). HasOwnName whole v.component v.own_name) (moved_waiting s) added.rest
    (All-weaker (λ (v : Waiting). (suc k ≤ v.component) × HasOwnName old.tree v.component v.own_name) (λ (v : Waiting). HasOwnName whole (moved_component s side.Outer v.component) v.own_name)
    (λ v h. let l = h.0 in outer_named old.tree d.tree k c f d.elements count p.orderly q.orderly at own.0 own.1 name_is v.component v.own_name (omega (arith, l)) h.1) added.rest
    (both_all (λ (v : Waiting). suc k ≤ v.component) (λ (v : Waiting). HasOwnName old.tree v.component v.own_name) added.rest (after_all (suc k) (length old.tree.components) added.rest after) rest_names)) in
    let waits : All (λ (v : Waiting). HasOwnName whole v.component v.own_name) new.waiting =
    subst (λ (ws : List Waiting). All (λ (v : Waiting). HasOwnName whole v.component v.own_name) ws) (sym added.waiting)
    (All-append (λ (v : Waiting). HasOwnName whole v.component v.own_name) (map (waiting_from k old.documents (suc w.level)) d.nested) (map (moved_waiting s) added.rest) theirs ours) in
    record {
      orderly = subst (λ (n : ℕ). IsOrderly n new.tree) long (subst (IsOrderly (count + d.elements)) tree (o.whole_orderly old.tree d.tree k c f d.elements count p.orderly q.orderly at));
      named = subst IsNamedTree tree (names.whole_named old.tree d.tree k c f d.elements count p.orderly q.orderly at p.named q.named own.0 own.1 name_is);
      placed = placed_added old.tree d.tree new.tree k d.elements old.documents (suc w.level) c f d.nested added.rest new.waiting less q.placed after added.tree added.waiting;
      waiting = subst (λ (t : SystemTree). All (λ (v : Waiting). HasOwnName t v.component v.own_name) new.waiting) tree waits;
      few = (let few = p.few in let inner : length d.tree.components ≤ (256 - (length old.tree.components - length old.waiting)) + length d.nested = subst (λ (x : Setting). length d.tree.components ≤ (256 - x.fmus) + length d.nested) before q.whole.few in
          let total : length new.tree.components ≡ (length old.tree.components - 1) + length d.tree.components = ap (λ (x : SystemTree). length x.components) added.tree ∙ length_inlined old.tree k c f d.tree d.elements less in
          let waited : length old.waiting ≡ suc (length added.rest) = ap (λ (ws : List Waiting). length ws) added.first.waits in
          let more : length new.waiting ≡ length d.nested + length added.rest = waits_long in
          omega (arith, few, inner, total, waited, more, less));
      names = subst (λ (x : SystemTree). All (λ (y : ComponentPart). (0 < length y.name) × (length y.name ≤ 2 ^ 24)) x.components) tree
          (filled.whole_names old.tree d.tree k c f d.elements count p.orderly q.orderly at added.is_frame.name p.names (subst (λ (x : Setting). All (λ (y : ComponentPart). x.name_above + length y.name ≤ 2 ^ 24) d.tree.components) before q.whole.short));
      owners = subst (λ (x : SystemTree). All (λ (y : Connector). IsOwner x y.owner) x.connectors) tree
          (filled.connector_owners old.tree d.tree k c f d.elements count p.orderly q.orderly at p.owners q.whole.owners);
      ends = λ none.
          let both = filled.none_earlier old.lacking (lacking_in old.elements s old.tree.connectors d.tree.connectors) (sym added.lacking ∙ none) in
          let own_there = filled.none_lacks old.elements (own_connectors s old.tree.connectors) d.tree.connectors
          (filled.own_below old.tree d.tree k c f d.elements count p.orderly q.orderly at p.parts.connectors) both.1 in
          subst (λ (x : SystemTree). All (HasEnds x) x.connections) tree
          (filled.whole_ends old.tree d.tree k c f d.elements count p.orderly q.orderly at (filled.ends_within old.tree d.tree k c f d.elements count p.orderly q.orderly at own_there) (p.ends both.0) q.whole.ends);
      parts = subst (λ (n : ℕ). AreBelow n new.tree) long (subst (AreBelow (count + d.elements)) tree (filled.whole_below old.tree d.tree k c f d.elements count p.orderly q.orderly at p.parts q.parts));
      sources = subst HaveSources tree (sources_below old.tree d.tree k c f d.elements p.sources q.sources (leads_folder w.kind c.source f.folder (component_leads old.tree k c at p.sources) added.is_frame.folder));
      held = subst (λ (n : ℕ). All (λ (x : Place). x.document < n) new.elements) (sym added.documents)
          (subst (λ (xs : List Place). All (λ (x : Place). x.document < suc old.documents) xs) (sym added.elements) (held_with c.node old.documents d.elements old.elements p.held));
    }

-- ---- all

pub proper_whole : (g : Gathered) → IsProper g → IsNext g next.Nothing → g.lacking ≡ None → IsWholeTree g.tree
proper_whole g p all none =
    let few = p.few in
    let waits : length g.waiting ≡ 0 = ap (λ (ws : List Waiting). length ws) all in record {
      root = slice_get_within g.tree.systems 0 p.orderly.root.0 p.orderly.root.1;
      few = omega (arith, few, waits);
      named = All-weaker (λ (c : ComponentPart). (0 < length c.name) × (length c.name ≤ 2 ^ 24)) (λ (c : ComponentPart). 0 < length c.name) (λ c h. h.0) g.tree.components p.names;
      owners = p.owners;
      ends = p.ends none;
    }
