use Rattle.std.proofs.Common.{◌≡◌, ◌-◌, ℕ, List, [], length, take, drop, sym, subst, arith}
use Rattle.std.proofs.lemmas.List.{length-drop, take_all}
use Rattle.link_frames.specs.declared.call.CallFrame.{CallFrame}
use Rattle.link_frames.specs.declared.layout.Form.TheVariants.{OfCall}
use Rattle.exact_parts.specs.declared.taken.Taken.{Taken}
use Rattle.exact_parts.specs.declared.taken.Taken.TheVariants.{NeedMore, Bad}
use Rattle.link_frames.specs.Call.{IsCallFrame, PartsOf, TextsOf}
use Rattle.link_frames.specs.Numbers.{Reads}
use Rattle.exact_parts.specs.Taking.{Takes, moved}
use Rattle.exact_parts.proofs.CallerLemmas.{first_bad, first_more, made_breaks, made_prefix, next_takes, only_one, same_takes}
use Rattle.link_frames.proofs.CallLemmas.{call_numbers, call_same, call_single, texts_followed, the_frame}
use Rattle.link_frames.proofs.NumbersLemmas.{reads_single}
use Rattle.link_frames.proofs.call.take_call.Goals as goal

pub take_texts-requires : goal.take_texts-requires
take_texts-requires c = call_numbers c.in-Got.value (take c.in-Got.length c.args.bytes.now) c.in-Got.ensures.spelled

pub returns-in-Got-clause-taken : goal.returns-in-Got-clause-taken
returns-in-Got-clause-taken c =
    let bytes = c.args.bytes.now in
    let n = c.in-Got.length in
    let tail : take (length bytes - n) (drop n bytes) ≡ drop n bytes = take_all _ _ (omega (arith, length-drop n bytes)) in
    let rest : Takes (TextsOf c.in-Got.value) (drop n bytes) c.take_texts.result = subst (λ (t : List ℕ). Takes (TextsOf c.in-Got.value) t c.take_texts.result) tail c.take_texts.ensures in
    subst (λ (t : Taken CallFrame). Takes IsCallFrame bytes t) (sym c.after.ensures)
    (same_takes PartsOf IsCallFrame call_same bytes (moved n c.take_texts.result)
    (next_takes (Reads OfCall 7 []) TextsOf (reads_single OfCall 7 []) bytes c.in-Got.value n c.take_texts.result c.in-Got.ensures rest))

pub returns-in-Got-clause-only : goal.returns-in-Got-clause-only
returns-in-Got-clause-only c = λ other h. only_one IsCallFrame call_single c.args.bytes.now c.after.result other (returns-in-Got-clause-taken c) h

pub returns-in-NeedMore-clause-taken : goal.returns-in-NeedMore-clause-taken
returns-in-NeedMore-clause-taken c =
    made_prefix PartsOf the_frame IsCallFrame call_same c.args.bytes.now (first_more (Reads OfCall 7 []) TextsOf texts_followed c.args.bytes.now c.in-NeedMore.ensures)

pub returns-in-NeedMore-clause-only : goal.returns-in-NeedMore-clause-only
returns-in-NeedMore-clause-only c = λ other h. only_one IsCallFrame call_single c.args.bytes.now NeedMore other (returns-in-NeedMore-clause-taken c) h

pub returns-in-Bad-clause-taken : goal.returns-in-Bad-clause-taken
returns-in-Bad-clause-taken c =
    made_breaks PartsOf the_frame IsCallFrame call_same c.args.bytes.now c.in-Bad.at (first_bad (Reads OfCall 7 []) TextsOf (reads_single OfCall 7 []) texts_followed c.args.bytes.now c.in-Bad.at c.in-Bad.ensures)

pub returns-in-Bad-clause-only : goal.returns-in-Bad-clause-only
returns-in-Bad-clause-only c = λ other h. only_one IsCallFrame call_single c.args.bytes.now (Bad c.in-Bad.at) other (returns-in-Bad-clause-taken c) h
