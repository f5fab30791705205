use Rattle.std.proofs.Common.{◌≡◌, ◌-◌, ◌+◌, ◌∙◌, arith, rules, length}
use Rattle.host_serving.proofs.ComingLemmas.{batch_came, filled, items_broke, items_cut}
use Rattle.host_serving.proofs.FrameLemmas.{copied}
use Rattle.host_serving.proofs.reading.next_items.Goals as goal

pub returns-in-Got : goal.returns-in-Got
returns-in-Got g c = λ before takes.
    let new = g.I.Source.view c.fill.new.input in
    let size : length c.fill.new.into ≡ c.batch_len.result - 24 = search rules in
    let long : length c.copy_from_slice.new.self ≡ 24 = search rules in
    let f = filled before (g.I.Source.view c.args.input.now) new _ c.args.head.now c.fill.new.into c.prefix_of.result.now c.args.calls _ c.in-Ok.more
    (copied c.args.room.now c.copy_from_slice.new.self 24 long ∙ c.copy_from_slice.ensures.after) c.prefix_of.ensures c.in-Ok.ensures.bound c.requires takes c.in-Ok.ensures.takes in
    batch_came before new _ c.prefix_of.result.now c.args.calls c.in-Got.value c.in-Got.length (24 + c.in-Ok.more) c.prefix_of.ensures (omega (arith, size, c.batch_len.ensures, c.in-Ok.ensures.bound)) f.told f.takes c.in-Got.ensures.taken

pub returns-in-Bad : goal.returns-in-Bad
returns-in-Bad g c = λ before takes.
    let new = g.I.Source.view c.fill.new.input in
    let long : length c.copy_from_slice.new.self ≡ 24 = search rules in
    let f = filled before (g.I.Source.view c.args.input.now) new _ c.args.head.now c.fill.new.into c.prefix_of.result.now c.args.calls _ c.in-Ok.more
    (copied c.args.room.now c.copy_from_slice.new.self 24 long ∙ c.copy_from_slice.ensures.after) c.prefix_of.ensures c.in-Ok.ensures.bound c.requires takes c.in-Ok.ensures.takes in
    items_broke before new c.prefix_of.result.now c.args.calls c.in-Bad.at f.told f.takes c.in-Bad.ensures.taken

pub returns-in-NeedMore : goal.returns-in-NeedMore
returns-in-NeedMore g c = λ before takes.
    let new = g.I.Source.view c.fill.new.input in
    let size : length c.fill.new.into ≡ c.batch_len.result - 24 = search rules in
    let long : length c.copy_from_slice.new.self ≡ 24 = search rules in
    let f = filled before (g.I.Source.view c.args.input.now) new _ c.args.head.now c.fill.new.into c.prefix_of.result.now c.args.calls _ c.in-Ok.more
    (copied c.args.room.now c.copy_from_slice.new.self 24 long ∙ c.copy_from_slice.ensures.after) c.prefix_of.ensures c.in-Ok.ensures.bound c.requires takes c.in-Ok.ensures.takes in
    items_cut before new c.prefix_of.result.now c.args.calls c.in-Ok.more f.told f.long (λ less. c.in-Ok.ensures.end (omega (arith, less, size, c.batch_len.ensures))) f.takes c.in-NeedMore.ensures.taken
