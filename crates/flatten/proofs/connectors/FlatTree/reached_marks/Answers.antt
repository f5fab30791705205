use Rattle.std.proofs.Common.{◌↔◌, ℕ, List, All, length, sym, ap, ◌∙◌, subst, arith}
use Rattle.std.specs.List.{Contains}
use Rattle.dependency_order.specs.Paths.{IsMarked}
use Rattle.connection_paths.specs.Paths.{IsWithin}
use Rattle.flatten.specs.Indexed.{AreNumbered, joined}
use Rattle.flatten.proofs.JoinedLemmas.{numbered_joined, shapes_joined}
use Rattle.flatten.proofs.MarkLemmas.{found_led, listed_within}
use Rattle.flatten.proofs.connectors.FlatTree.reached_marks.Goals as goal

pub sources_of-requires-clause-ends : goal.sources_of-requires-clause-ends
sources_of-requires-clause-ends c =
    subst (λ n. All (IsWithin n) c.args.connections.now) (sym (ap length c.as_slice-2.ensures.value ∙ c.requires.indexed.points.len)) c.requires.ends

pub sources_of-requires-clause-starts : goal.sources_of-requires-clause-starts
sources_of-requires-clause-starts c =
    let f = c.requires.indexed in
    listed_within c.as_slice.result.now c.as_slice-3.result.now (length c.as_slice-2.result.now) (ap length c.as_slice.ensures.value ∙ c.requires.len ∙ sym f.points.len ∙ sym (ap length c.as_slice-2.ensures.value))
    (subst (λ (z : List ℕ). (x : ℕ) → Contains z x ↔ IsMarked c.as_slice.result.now x) (sym c.as_slice-3.ensures.value) c.in_ok-begins.ensures)

pub returns : goal.returns
returns c =
    let f = c.requires.indexed in
    let t = c.args.self.now.tree.now in
    let shapes = c.args.self.now.shapes.now in
    let points = c.as_slice-2.result.now in
    let numbered = subst (AreNumbered t shapes) (sym c.as_slice-2.ensures.value) f.points in
    λ ks ends. found_led (joined t ks) shapes points (shapes_joined t ks shapes f.shapes) (numbered_joined t ks shapes points numbered)
    c.args.connections.now ends c.args.starts.items c.as_slice-3.result.now c.in_ok-found.found.items c.requires.shared
    (subst (λ z. (x : ℕ) → Contains c.as_slice-3.result.now x ↔ IsMarked z x) c.as_slice.ensures.value (subst (λ (z : List ℕ). (x : ℕ) → Contains z x ↔ IsMarked c.as_slice.result.now x) (sym c.as_slice-3.ensures.value) c.in_ok-begins.ensures))
    (λ x n e. c.in_ok-found.ensures.found x n e) c.loop-connector.connector c.loop-connector.reached.items (let l = c.requires.len in omega (arith, l)) c.loop-connector.invariant
