use Rattle.std.proofs.Common.{◌≡◌, ◌∙◌, ℕ, Vec, Global, slice_index_or, [], Option, sym, ap, subst, Some, None, true, false, arith, slice_get}
use Rattle.std.proofs.lemmas.Option.{slice_get-get_or}
use Rattle.name_prefixes.specs.Prefixes.{Entry}
use Rattle.name_prefixes.proofs.StepLemmas.{IsWalked, below_of, first_walked, prefixes_below, goes_down, walked, walked_past, walked_out}
use Rattle.name_prefixes.proofs.prefixes.prefixes_of.Goals as goal
use Rattle.name_prefixes.proofs.prefixes.prefixes_of.Goals.{then-begins+in_ok-push, else-begins}

pub loop-next-init : goal.loop-next-init
loop-next-init c = subst (λ xs. IsWalked c.args.sorted.now c.args.name.now xs c.last_up_to-next.result) (sym c.new-places.ensures.items) (first_walked c.args.sorted.now c.args.name.now c.last_up_to-next.result c.last_up_to-next.ensures (λ k e there prefix. prefixes_below e.0.now c.args.name.now prefix))

pub loop-next-smaller : goal.loop-next-smaller
loop-next-smaller c =
    let walk = subst (IsWalked c.args.sorted.now c.args.name.now c.loop-next.places.items) c.in-Some.is c.loop-next.invariant in
    let none : Entry = (record { ref_ptr = (0, 0); now = [] }, 0) in
    goes_down c.loop-next.next _ c.in-Some.at c.in-Some.is (below_of _ c.in-Some.at _ (c.requires.links c.in-Some.at _ _
    (slice_get-get_or c.args.sorted.now c.in-Some.at none walk.valid.0)
    (slice_get-get_or c.args.shorter.now c.in-Some.at None (omega (arith, walk.valid.0, c.requires.len)))))

pub loop-next-preserved : goal.loop-next-preserved
loop-next-preserved c =
    let walk = subst (IsWalked c.args.sorted.now c.args.name.now c.loop-next.places.items) c.in-Some.is c.loop-next.invariant in
    let none : Entry = (record { ref_ptr = (0, 0); now = [] }, 0) in
    let e : Entry = slice_index_or c.args.sorted.now c.in-Some.at none in
    let there : slice_get c.args.sorted.now c.in-Some.at ≡ Some e = slice_get-get_or c.args.sorted.now c.in-Some.at none walk.valid.0 in
    let last : Option ℕ = slice_index_or c.args.shorter.now c.in-Some.at None in
    let link : slice_get c.args.shorter.now c.in-Some.at ≡ Some last = slice_get-get_or c.args.shorter.now c.in-Some.at None (omega (arith, walk.valid.0, c.requires.len)) in
    elim c.if-begins.branch [
      | then-begins+in_ok-push w ↦
          subst (λ xs. IsWalked c.args.sorted.now c.args.name.now xs last) (sym w.in_ok-push.ensures.items ∙ sym (ap (λ (v : Vec ℕ Global). v.items) w.places-is))
          (walked c.args.sorted.now c.args.shorter.now c.args.name.now c.loop-next.places.items c.in-Some.at e last c.requires.rising c.requires.once c.requires.links there link (c.begins.ensures.0 w.if-begins.true) walk)
      | else-begins w ↦
          subst (λ xs. IsWalked c.args.sorted.now c.args.name.now xs last) (sym (ap (λ (v : Vec ℕ Global). v.items) w.places-is))
          (walked_past c.args.sorted.now c.args.shorter.now c.args.name.now c.loop-next.places.items c.in-Some.at e last c.requires.rising c.requires.links there link (λ prefix. let no : true ≡ false = sym (c.begins.ensures.1 prefix) ∙ w.if-begins.false in cc) walk)
    ]

pub returns : goal.returns
returns c = walked_out c.args.sorted.now c.args.name.now c.loop-next.places.items c.loop-next.next c.in_default.is c.loop-next.invariant
