use Rattle.std.proofs.Common.{◌≡◌, ◌∙◌, length, [], sym, ap, subst, None, true, false, arith}
use Rattle.std.proofs.lemmas.Option.{slice_get-get_or, get_or_from_slice_get}
use Rattle.name_prefixes.specs.Prefixes.{Entry}
use Rattle.name_prefixes.proofs.StepLemmas.{first_next, found_here, found_none, passed, IsNext, below_of, goes_down}
use Rattle.name_prefixes.proofs.prefixes.last_prefix.Goals as goal

pub loop-next-init : goal.loop-next-init
loop-next-init c =
    first_next c.args.sorted.now (length c.args.shorter.now) _ c.checked_sub-next.result c.requires.rising
    (slice_get-get_or c.args.sorted.now (length c.args.shorter.now) _ c.requires.next) c.checked_sub-next.ensures

pub returns-then-begins : goal.returns-then-begins
returns-then-begins c = λ e there.
    let next = subst (IsNext c.args.sorted.now _ (length c.args.shorter.now)) c.in-Some.is c.loop-next.invariant in
    found_here c.args.sorted.now (length c.args.shorter.now) c.in-Some.at _ e _
    (slice_get-get_or c.args.sorted.now c.in-Some.at _ (omega (arith, next.valid.0, c.requires.next)))
    (c.begins.ensures.0 c.if-begins.true)
    (ap (λ (x : Entry). x.0.now) (get_or_from_slice_get c.args.sorted.now (length c.args.shorter.now) e _ there)) next

pub loop-next-smaller : goal.loop-next-smaller
loop-next-smaller c =
    let next = subst (IsNext c.args.sorted.now _ (length c.args.shorter.now)) c.in-Some.is c.loop-next.invariant in
    let none : Entry = (record { ref_ptr = (0, 0); now = [] }, 0) in
    goes_down c.loop-next.next _ c.in-Some.at c.in-Some.is (below_of _ c.in-Some.at _ (c.requires.links c.in-Some.at _ _
    (slice_get-get_or c.args.sorted.now c.in-Some.at none (omega (arith, next.valid.0, c.requires.next)))
    (slice_get-get_or c.args.shorter.now c.in-Some.at None next.valid.0)))

pub loop-next-preserved : goal.loop-next-preserved
loop-next-preserved c =
    let next = subst (IsNext c.args.sorted.now _ (length c.args.shorter.now)) c.in-Some.is c.loop-next.invariant in
    passed c.args.sorted.now c.args.shorter.now (length c.args.shorter.now) c.in-Some.at _ _ _ c.requires.rising c.requires.links
    (slice_get-get_or c.args.sorted.now c.in-Some.at _ (omega (arith, next.valid.0, c.requires.next)))
    (slice_get-get_or c.args.shorter.now c.in-Some.at None next.valid.0) (λ prefix. let no : true ≡ false = sym (c.begins.ensures.1 prefix) ∙ c.if-begins.false in cc) next

pub returns : goal.returns
returns c = λ e there.
    found_none c.args.sorted.now (length c.args.shorter.now) _ e c.loop-next.next c.in_default.is
    (ap (λ (x : Entry). x.0.now) (get_or_from_slice_get c.args.sorted.now (length c.args.shorter.now) e _ there)) c.loop-next.invariant
