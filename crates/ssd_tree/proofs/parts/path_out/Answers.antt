use Rattle.std.proofs.Common.{◌≡◌, ℕ, List, Some, codes, sym, subst, inl}
use Rattle.ssd_tree.specs.Elements.{holder}
use Rattle.ssd_tree.specs.Paths.{Climbs}
use Rattle.ssd_tree.proofs.PartLemmas.{climbs_more, part_inside}
use Rattle.ssd_tree.proofs.parts.path_out.Goals as goal

pub loop-outer-preserved : goal.loop-outer-preserved
loop-outer-preserved c =
    let t = c.args.tree.now in
    let current = c.loop-outer.current in
    let outer = c.in-Some.outer in
    let up : holder t current (codes "Elements") ≡ Some outer = sym c.in-Some.ensures.holder in (
      subst (λ (xs : List ℕ). Climbs t c.args.node xs outer) (sym c.in_ok-push.ensures.items)
          (climbs_more t c.args.node c.loop-outer.path.items current outer c.loop-outer.invariant.0 up),
      inl (part_inside t current outer c.requires.sound c.loop-outer.invariant.1 up),
    )
