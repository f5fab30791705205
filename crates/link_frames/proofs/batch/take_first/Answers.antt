use Rattle.std.proofs.Common.{◌≡◌, ℕ, ◌-◌, [], List, length, take, drop, sym, subst, arith}
use Rattle.std.specs.Prelude.{slice_index}
use Rattle.std.proofs.lemmas.List.{length-drop, take_all}
use Rattle.link_frames.specs.declared.layout.Form.{Form}
use Rattle.link_frames.specs.declared.layout.Items.{Items}
use Rattle.link_frames.specs.declared.layout.Items.TheVariants.{Either}
use Rattle.exact_parts.specs.declared.taken.Taken.{Taken}
use Rattle.link_frames.specs.Batch.{FirstOf, ItemsOf, item_form, items_at}
use Rattle.link_frames.specs.Numbers.{Reads}
use Rattle.exact_parts.specs.Taking.{Breaks, Gets, IsPrefix, Takes}
use Rattle.exact_parts.proofs.CallerLemmas.{first_bad, first_more, next_takes}
use Rattle.link_frames.proofs.BatchLemmas.{first_followed}
use Rattle.link_frames.proofs.NumbersLemmas.{reads_single}
use Rattle.link_frames.proofs.batch.take_first.Goals as goal

pub returns-in-Got : goal.returns-in-Got
returns-in-Got c =
    let a = c.args in
    let n = c.in-Got.length in
    let form = item_form a.side Either in
    let next = λ (ns : List ℕ). ItemsOf a.side (items_at (slice_index ns 0)) (a.count - 1) in
    let tail : take (length a.bytes.now - n) (drop n a.bytes.now) ≡ drop n a.bytes.now = take_all _ _ (omega (arith, length-drop n a.bytes.now)) in
    let got : Gets (Reads form 7 []) a.bytes.now c.in-Got.value n = subst (λ (f : Form). Gets (Reads f 7 []) a.bytes.now c.in-Got.value n) c.item_form.ensures c.in-Got.ensures in
    let there : Takes (ItemsOf a.side c.items_at.result (a.count - 1)) (drop n a.bytes.now) c.take_items-rest.result = subst (λ (t : List ℕ). Takes (ItemsOf a.side c.items_at.result (a.count - 1)) t c.take_items-rest.result) tail c.take_items-rest.ensures in
    let rest : Takes (ItemsOf a.side (items_at (slice_index c.in-Got.value 0)) (a.count - 1)) (drop n a.bytes.now) c.take_items-rest.result = subst (λ (i : Items). Takes (ItemsOf a.side i (a.count - 1)) (drop n a.bytes.now) c.take_items-rest.result) c.items_at.ensures there in
    subst (λ (t : Taken (Unit {0})). Takes (FirstOf a.side a.count) a.bytes.now t) (sym c.after.ensures)
    (next_takes (Reads form 7 []) (λ (ns : List ℕ). ItemsOf a.side (items_at (slice_index ns 0)) (a.count - 1)) (reads_single form 7 []) a.bytes.now c.in-Got.value n c.take_items-rest.result got rest)

pub returns-in-NeedMore : goal.returns-in-NeedMore
returns-in-NeedMore c =
    let a = c.args in
    first_more (Reads (item_form a.side Either) 7 []) (λ (ns : List ℕ). ItemsOf a.side (items_at (slice_index ns 0)) (a.count - 1)) (first_followed a.side a.count) a.bytes.now
    (subst (λ (f : Form). IsPrefix (Reads f 7 []) a.bytes.now) c.item_form.ensures c.in-NeedMore.ensures)

pub returns-in-Bad : goal.returns-in-Bad
returns-in-Bad c =
    let a = c.args in
    first_bad (Reads (item_form a.side Either) 7 []) (λ (ns : List ℕ). ItemsOf a.side (items_at (slice_index ns 0)) (a.count - 1)) (reads_single (item_form a.side Either) 7 []) (first_followed a.side a.count) a.bytes.now c.in-Bad.at
    (subst (λ (f : Form). Breaks (Reads f 7 []) a.bytes.now c.in-Bad.at) c.item_form.ensures c.in-Bad.ensures)
