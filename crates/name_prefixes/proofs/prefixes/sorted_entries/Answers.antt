use Rattle.std.proofs.Common.{◌+◌, refl, sym, subst, arith}
use Rattle.std.proofs.lemmas.Option.{slice_get-get_or}
use Rattle.name_prefixes.proofs.SortLemmas.{AreEntries, entries_push, sorted_of}
use Rattle.name_prefixes.proofs.prefixes.sorted_entries.Goals as goal

pub loop-place-init : goal.loop-place-init
loop-place-init c = subst (AreEntries c.args.paths.now 0) (sym c.in_ok-entries.ensures.items) (record { len = refl; each = λ k e there. absurd cc })

pub loop-place-preserved : goal.loop-place-preserved
loop-place-preserved c =
    subst (AreEntries c.args.paths.now (c.loop-place.place + 1)) (sym c.in_ok-push.ensures.items)
    (entries_push c.args.paths.now c.loop-place.place c.loop-place.entries.items _ (slice_get-get_or c.args.paths.now c.loop-place.place _ c.loop-place-test.true) c.loop-place.invariant)

pub returns : goal.returns
returns c = sorted_of c.args.paths.now c.loop-place.place c.loop-place.entries.items c.sort.new.self.items (omega (arith, c.loop-place-test.false)) c.loop-place.invariant c.in_ok-sort.ensures.permutation c.in_ok-sort.ensures.sorted
