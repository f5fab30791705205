use Rattle.std.proofs.Common.{◌≡◌, ℕ, suc, ◌-◌, [], List, length, take, drop, sym, subst, arith}
use Rattle.std.proofs.lemmas.List.{length-drop, take_all}
use Rattle.link_frames.specs.declared.layout.Form.{Form}
use Rattle.exact_parts.specs.declared.taken.Taken.{Taken}
use Rattle.link_frames.specs.Batch.{ItemsOf, item_form}
use Rattle.link_frames.specs.Numbers.{Reads}
use Rattle.exact_parts.specs.Taking.{Breaks, Gets, IsPrefix, Takes, moved}
use Rattle.exact_parts.proofs.CallerLemmas.{first_bad, first_more, next_takes}
use Rattle.link_frames.proofs.BatchLemmas.{items_followed}
use Rattle.link_frames.proofs.NumbersLemmas.{reads_single}
use Rattle.link_frames.proofs.batch.+take_items.Goals as goal

pub returns-in-Got : goal.returns-in-Got
returns-in-Got t c =
    let a = c.args in
    let n = c.in-Got.length in
    let form = item_form a.side a.items in
    let left : a.left ≡ suc (a.left - 1) = omega (arith, c.if-left-eq0.false) in
    let tail : take (length a.bytes.now - n) (drop n a.bytes.now) ≡ drop n a.bytes.now = take_all _ _ (omega (arith, length-drop n a.bytes.now)) in
    let got : Gets (Reads form 7 []) a.bytes.now c.in-Got.value n = subst (λ (f : Form). Gets (Reads f 7 []) a.bytes.now c.in-Got.value n) c.item_form.ensures c.in-Got.ensures in
    let rest : Takes (ItemsOf a.side a.items (a.left - 1)) (drop n a.bytes.now) c.take_items-rest.result = subst (λ (t : List ℕ). Takes (ItemsOf a.side a.items (a.left - 1)) t c.take_items-rest.result) tail c.take_items-rest.ensures in
    subst (λ (t : Taken (Unit {0})). Takes (ItemsOf a.side a.items a.left) a.bytes.now t) (sym c.after.ensures)
    (subst (λ (k : ℕ). Takes (ItemsOf a.side a.items k) a.bytes.now (moved n c.take_items-rest.result)) (sym left)
    (next_takes (Reads form 7 []) (λ (ns : List ℕ). ItemsOf a.side a.items (a.left - 1)) (reads_single form 7 []) a.bytes.now c.in-Got.value n c.take_items-rest.result got rest))

pub returns-in-NeedMore : goal.returns-in-NeedMore
returns-in-NeedMore t c =
    let a = c.args in
    let form = item_form a.side a.items in
    let left : a.left ≡ suc (a.left - 1) = omega (arith, c.if-left-eq0.false) in
    subst (λ (k : ℕ). IsPrefix (ItemsOf a.side a.items k) a.bytes.now) (sym left)
    (first_more (Reads form 7 []) (λ (ns : List ℕ). ItemsOf a.side a.items (a.left - 1)) (items_followed a.side a.items (a.left - 1)) a.bytes.now
    (subst (λ (f : Form). IsPrefix (Reads f 7 []) a.bytes.now) c.item_form.ensures c.in-NeedMore.ensures))

pub returns-in-Bad : goal.returns-in-Bad
returns-in-Bad t c =
    let a = c.args in
    let form = item_form a.side a.items in
    let left : a.left ≡ suc (a.left - 1) = omega (arith, c.if-left-eq0.false) in
    subst (λ (k : ℕ). Breaks (ItemsOf a.side a.items k) a.bytes.now c.in-Bad.at) (sym left)
    (first_bad (Reads form 7 []) (λ (ns : List ℕ). ItemsOf a.side a.items (a.left - 1)) (reads_single form 7 []) (items_followed a.side a.items (a.left - 1)) a.bytes.now c.in-Bad.at
    (subst (λ (f : Form). Breaks (Reads f 7 []) a.bytes.now c.in-Bad.at) c.item_form.ensures c.in-Bad.ensures))
