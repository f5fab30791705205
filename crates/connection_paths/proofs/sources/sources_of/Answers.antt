use Rattle.std.proofs.Common.{◌<◌, length, sym, ap, ◌∙◌, subst, arith}
use Rattle.std.specs.List.{All}
use Rattle.std.proofs.lemmas.List.Elements.{All-contains}
use Rattle.connection_paths.specs.Paths.{IsWithin}
use Rattle.connection_paths.proofs.SourceLemmas.{lent_within, closed_links, starts_within, sources_found}
use Rattle.connection_paths.proofs.sources.sources_of.Goals as goal

pub links-requires-clause-ends : goal.links-requires-clause-ends
links-requires-clause-ends c = subst (λ n. All (IsWithin n) c.args.connections.now) (sym (ap length c.as_slice.ensures.value ∙ c.in_ok-firsts.ensures.same_length)) c.requires.ends

pub links-requires-clause-firsts : goal.links-requires-clause-firsts
links-requires-clause-firsts c = λ k l. lent_within c.args.points.now c.in_ok-firsts.firsts.items c.as_slice.result.now k c.in_ok-firsts.ensures c.as_slice.ensures.value l

pub firsts_of-requires : goal.firsts_of-requires
firsts_of-requires c = subst (λ n. All (λ k. k < n) c.args.starts.now) (sym (ap length c.as_slice-2.ensures.value ∙ c.in_ok-firsts.ensures.same_length)) c.requires.starts

pub reached_from-requires-clause-closed : goal.reached_from-requires-clause-closed
reached_from-requires-clause-closed c =
    closed_links c.args.points.now c.args.connections.now c.in_ok-firsts.firsts.items c.as_slice.result.now c.in_ok-links.links c.in_ok-firsts.ensures c.as_slice.ensures.value c.in_ok-links.ensures.links
    (λ k h. All-contains (IsWithin (length c.args.points.now)) c.args.connections.now k c.requires.ends h) c.in_ok-links.ensures.len

pub reached_from-requires-clause-starts : goal.reached_from-requires-clause-starts
reached_from-requires-clause-starts c =
    starts_within c.args.points.now c.in_ok-firsts.firsts.items c.as_slice-2.result.now c.as_slice-4.result.now c.in_ok-begins.begins.items c.args.starts.now c.in_ok-links.links (length c.as_slice.result.now)
    c.in_ok-firsts.ensures c.as_slice-2.ensures.value c.in_ok-begins.ensures c.as_slice-4.ensures.value c.requires.starts c.in_ok-links.ensures.len (ap length (c.as_slice.ensures.value ∙ sym c.as_slice-2.ensures.value))

pub found_at-requires : goal.found_at-requires
found_at-requires c = λ k l.
    let w = lent_within c.args.points.now c.in_ok-firsts.firsts.items c.as_slice-6.result.now k c.in_ok-firsts.ensures c.as_slice-6.ensures.value l in
    let a = ap length (c.as_slice-6.ensures.value ∙ sym c.as_slice.ensures.value) in
    let b = c.in_ok-links.ensures.len in
    let d = c.in_ok-found.ensures.len in
    let e = ap length c.as_slice-5.ensures.value in
    omega (arith, w, a, b, d, e)

pub returns-clause-found : goal.returns-clause-found
returns-clause-found c =
    sources_found c.found_at.result c.args.points.now c.args.connections.now c.args.starts.now c.in_ok-firsts.firsts.items c.as_slice.result.now c.as_slice-2.result.now c.as_slice-6.result.now c.in_ok-begins.begins.items c.as_slice-4.result.now
    c.in_ok-links.links c.in_ok-through.through.items c.as_slice-3.result.now c.in_ok-found.found.items c.as_slice-5.result.now
    c.in_ok-firsts.ensures c.as_slice.ensures.value c.as_slice-2.ensures.value c.as_slice-6.ensures.value c.in_ok-links.ensures.links (λ k h. All-contains (IsWithin (length c.args.points.now)) c.args.connections.now k c.requires.ends h)
    c.in_ok-through.ensures.marks c.as_slice-3.ensures.value (λ k h. All-contains (λ z. z < length c.args.points.now) c.args.starts.now k c.requires.starts h) c.in_ok-begins.ensures c.as_slice-4.ensures.value
    c.in_ok-found.ensures.spread c.as_slice-5.ensures.value c.found_at.ensures
