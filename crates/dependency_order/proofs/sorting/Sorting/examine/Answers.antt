use Rattle.std.proofs.Common.{◌≡◌, false, get_or, arith, rules}
use Rattle.dependency_order.proofs.ExamineLemmas.{waits_for, further_for, held_for, places_it, further_it}
use Rattle.dependency_order.proofs.sorting.Sorting.examine.Goals as goal

pub push-requires : goal.push-requires
push-requires c =
    let e = c.in-Some.ensures.found in
    let l = c.requires.closed.below c.args.node c.in-Some.need e.0 in
    let m = c.in-Some.ensures.sorting.lists in
    omega (arith, l, m)

pub returns-in_ok-push-in-Some-clause-sorting : goal.returns-in_ok-push-in-Some-clause-sorting
returns-in_ok-push-in-Some-clause-sorting c =
    let s = c.pass.new.self in
    waits_for c.args.needs.now s.order.items s.placed.items s.passed.items s.waiting c.push.new.self c.in-Some.need c.args.node c.in-Some.ensures.sorting c.requires.closed c.in-Some.ensures.found.0 c.requires.node c.in_ok-push-in-Some.ensures.pushed

pub returns-in_ok-push-in-Some-clause-further : goal.returns-in_ok-push-in-Some-clause-further
returns-in_ok-push-in-Some-clause-further c =
    let o = c.args.self.now in
    let s = c.pass.new.self in
    let e = c.in-Some.ensures in
    further_for c.args.needs.now o.order.items s.order.items o.placed.items s.placed.items s.passed.items o.waiting s.waiting c.push.new.self c.in-Some.need c.args.node e.order e.placed e.waiting e.sorting c.requires.closed e.found.0 c.in_ok-push-in-Some.ensures.pushed

pub returns-in_ok-push-in-Some-clause-held : goal.returns-in_ok-push-in-Some-clause-held
returns-in_ok-push-in-Some-clause-held c =
    let o = c.args.self.now in
    let s = c.pass.new.self in
    let e = c.in-Some.ensures in
    λ at l. held_for c.args.needs.now s.order.items o.placed.items s.placed.items s.passed.items s.waiting c.push.new.self c.in-Some.need c.args.node at e.placed e.sorting c.requires.closed e.found.0 e.found.1 c.in_ok-push-in-Some.ensures.pushed

pub returns-in_ok-push-in-None-clause-sorting : goal.returns-in_ok-push-in-None-clause-sorting
returns-in_ok-push-in-None-clause-sorting c =
    let o = c.args.self.now in
    let s = c.pass.new.self in
    let e = c.in-None.ensures in
    let free : get_or o.placed.items c.args.node false ≡ false = search rules in
    places_it c.args.needs.now s.order.items c.push-in-None.new.self.items o.placed.items s.placed.items s.passed.items s.waiting c.args.node e.placed e.sorting c.requires.node free e.found c.in_ok-push-in-None.ensures.items

pub returns-in_ok-push-in-None-clause-further : goal.returns-in_ok-push-in-None-clause-further
returns-in_ok-push-in-None-clause-further c =
    let o = c.args.self.now in
    let s = c.pass.new.self in
    let e = c.in-None.ensures in
    further_it c.args.needs.now o.order.items s.order.items c.push-in-None.new.self.items o.placed.items s.placed.items s.passed.items o.waiting s.waiting c.args.node e.order e.placed e.waiting e.sorting c.requires.node c.in_ok-push-in-None.ensures.items
