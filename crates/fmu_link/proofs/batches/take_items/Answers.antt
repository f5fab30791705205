use Rattle.std.proofs.Common.{rules, ◌≡◌, ◌+◌, ◌<◌, ℕ, length, take, get_or, set, sym, ap, refl, subst, ◌∙◌, inr, arith, None, false}
use Rattle.sim_base.specs.Causes.{one_more}
use Rattle.fmi_calls.specs.Next.{next_of}
use Rattle.fmi_calls.specs.Permission.{Permitted}
use Rattle.fmi_calls.specs.declared.call.Call.TheVariants as C
use Rattle.fmu_peer.specs.Many.{AnsweredFirst, Talks, exchanges}
use Rattle.fmu_peer.specs.Talk.{AllGood}
use Rattle.fmu_peer.specs.declared.peer.PeerFault.TheVariants.{Garbled}
use Rattle.fmu_peer.proofs.ManyLemmas.{all_more, answered_all, answered_first, bad_grade, faults_after, good_grade, may_more, permitted_now, places_more, talks_more}
use Rattle.fmu_link.specs.Piped.{view_of}
use Rattle.fmu_link.proofs.BatchReplies.{AreTold, falls_short, tells_first, told_more}
use Rattle.fmu_link.proofs.BatchTalks.{item_asked, item_garbled, same_fixed, same_twice, still}
use Rattle.fmu_link.proofs.batches.take_items.Goals as goal

pub item-reply-requires : goal.item-reply-requires
item-reply-requires c = (c.args.count, c.requires.batch, c.loop-i-test.true)

pub note-requires : goal.note-requires
note-requires c =
    let inv = c.loop-i.invariant in
    let old = c.args.instance.now in
    let mid = c.loop-i.instance in
    permitted_now (view_of still old) (view_of still mid) c.args.calls.now c.loop-i.i (C.Instantiate false false false) (omega (arith, c.loop-i-test.true, c.requires.few)) (same_fixed still old mid inv.same) inv.may

pub garbled-requires-clause-permitted : goal.garbled-requires-clause-permitted
garbled-requires-clause-permitted c =
    let inv = c.loop-i.invariant in
    let cs = c.args.calls.now in
    let old = c.args.instance.now in
    let mid = c.loop-i.instance in
    let end : c.loop-i.i ≡ c.args.count = omega (arith, inv.up_to, c.loop-i-test.false) in
    let part : c.args.count < length cs = omega (arith, c.requires.few, c.is_all.ensures.no c.if-is_all.false) in
    subst (λ (n : ℕ). Permitted mid.shape mid.phase (get_or cs n (C.Instantiate false false false))) end
    (permitted_now (view_of still old) (view_of still mid) cs c.loop-i.i (C.Instantiate false false false) (omega (arith, end, part)) (same_fixed still old mid inv.same) inv.may)

pub returns-in-Refused : goal.returns-in-Refused
returns-in-Refused c =
    let inv = c.loop-i.invariant in
    let bytes = c.args.came.now in
    let b = c.requires.batch in
    let d = C.Instantiate false false false in
    let i = c.loop-i.i in
    let cs = c.args.calls.now in
    let old = c.args.instance.now in
    let mid = c.loop-i.instance in
    let new = c.note.new.instance in
    let reply = c.item-reply.result in
    let lt : i < length cs = omega (arith, c.loop-i-test.true, c.requires.few) in
    let within : i < length c.loop-i.replies = omega (arith, lt, inv.places) in
    let bad = bad_grade (view_of still old) (view_of still mid) (view_of still new) (get_or cs i d) reply new.shape c.grade.result (same_fixed still old mid inv.same) (item_asked still mid new (get_or cs i d) reply c.note.ensures.kept c.note.ensures.counted c.note.ensures.phase) refl c.grade.ensures c.in-Refused.is in
    record {
      places = search rules;
      asked = λ w. answered_first (view_of w old) (view_of w new) cs c.loop-i.replies i d reply inv.places lt
          (talks_more (view_of w old) (view_of w mid) (view_of w new) cs c.loop-i.replies i d reply inv.places lt (same_fixed w old mid inv.same) inv.may (inv.talks w) (item_asked w mid new (get_or cs i d) reply c.note.ensures.kept c.note.ensures.counted c.note.ensures.phase))
          inv.good (inr bad);
      says = tells_first cs bytes (set c.loop-i.replies i reply) c.args.count b c.requires.answers (i + 1) (omega (arith, c.loop-i-test.true)) (told_more bytes c.loop-i.replies i reply c.args.count within b c.loop-i-test.true inv.told c.item-reply.ensures);
      counted = c.note.ensures.counted ∙ inv.counted;
      agreed = c.note.ensures.agreed ∙ inv.agreed;
    }

pub loop-i-preserved : goal.loop-i-preserved
loop-i-preserved c =
    let inv = c.loop-i.invariant in
    let bytes = c.args.came.now in
    let b = c.requires.batch in
    let d = C.Instantiate false false false in
    let i = c.loop-i.i in
    let cs = c.args.calls.now in
    let old = c.args.instance.now in
    let mid = c.loop-i.instance in
    let new = c.note.new.instance in
    let reply = c.item-reply.result in
    let lt : i < length cs = omega (arith, c.loop-i-test.true, c.requires.few) in
    let within : i < length c.loop-i.replies = omega (arith, lt, inv.places) in
    let same = same_twice old mid new inv.same c.note.ensures.kept in
    let asked = item_asked still mid new (get_or cs i d) reply c.note.ensures.kept c.note.ensures.counted c.note.ensures.phase in
    let good = good_grade (view_of still old) (view_of still mid) (view_of still new) (get_or cs i d) reply new.shape c.grade.result (same_fixed still old mid inv.same) asked refl c.grade.ensures c.in-Good.is in
    record {
      places = search rules;
      after = places_more c.args.replies.now c.loop-i.replies i reply inv.after;
      up_to = search rules;
      talks = λ w. talks_more (view_of w old) (view_of w mid) (view_of w new) cs c.loop-i.replies i d reply inv.places lt (same_fixed w old mid inv.same) inv.may (inv.talks w) (item_asked w mid new (get_or cs i d) reply c.note.ensures.kept c.note.ensures.counted c.note.ensures.phase);
      good = all_more old.shape cs c.loop-i.replies i d reply inv.places lt inv.good good;
      may = may_more (view_of still old) (view_of still mid) (view_of still new) cs i d reply lt (same_fixed still old mid inv.same) inv.may asked good;
      same = record { host = same.host; name = same.name; directory = same.directory; shape = same.shape };
      counted = c.note.ensures.counted ∙ inv.counted;
      agreed = c.note.ensures.agreed ∙ inv.agreed;
      told = told_more bytes c.loop-i.replies i reply c.args.count within b c.loop-i-test.true inv.told c.item-reply.ensures;
    }

pub returns-then-is_all : goal.returns-then-is_all
returns-then-is_all c =
    let inv = c.loop-i.invariant in
    let bytes = c.args.came.now in
    let b = c.requires.batch in
    let cs = c.args.calls.now in
    let rs = c.loop-i.replies in
    let old = c.args.instance.now in
    let all : c.args.count ≡ length cs = c.is_all.ensures.yes c.if-is_all.true in
    let up_to : c.loop-i.i ≡ c.args.count = omega (arith, inv.up_to, c.loop-i-test.false) in
    let end : c.loop-i.i ≡ length cs = omega (arith, inv.up_to, c.loop-i-test.false, all) in
    record {
      places = inv.places;
      asked = λ w. subst (λ (n : ℕ). AnsweredFirst (view_of w old) cs rs n (view_of w c.loop-i.instance)) (sym all)
          (answered_all (view_of w old) (view_of w c.loop-i.instance) cs rs (C.Instantiate false false false) inv.places (omega (arith, c.requires.sort.some))
          (subst (λ (n : ℕ). Talks (view_of w old) (exchanges (take n cs) (take n rs)) (view_of w c.loop-i.instance)) end (inv.talks w))
          (subst (λ (n : ℕ). AllGood old.shape (exchanges (take n cs) (take n rs))) end inv.good));
      says = tells_first cs bytes rs c.args.count b c.requires.answers c.args.count (omega arith) (subst (AreTold bytes rs) up_to inv.told);
      counted = inv.counted;
      agreed = inv.agreed;
    }

pub returns : goal.returns
returns c =
    let inv = c.loop-i.invariant in
    let bytes = c.args.came.now in
    let b = c.requires.batch in
    let d = C.Instantiate false false false in
    let cs = c.args.calls.now in
    let old = c.args.instance.now in
    let mid = c.loop-i.instance in
    let new = c.garbled.new.instance in
    let end : c.loop-i.i ≡ c.args.count = omega (arith, inv.up_to, c.loop-i-test.false) in
    let part : c.args.count < length cs = omega (arith, c.requires.few, c.is_all.ensures.no c.if-is_all.false) in
    let lt : c.loop-i.i < length cs = omega (arith, end, part) in
    let head = take 24 c.args.came.now in
    let phase : new.phase ≡ next_of mid.shape mid.phase (get_or cs c.loop-i.i d) None = c.garbled.ensures.phase ∙ ap (λ (n : ℕ). next_of mid.shape mid.phase (get_or cs n d) None) (sym end) in
    record {
      places = inv.places;
      asked = λ w. rw c.garbled.ensures.fault (faults_after (view_of w old) (view_of w mid) (view_of w new) cs c.args.replies.now c.loop-i.replies c.loop-i.i d (Garbled head) inv.places lt inv.after (inv.talks w) inv.good
          (permitted_now (view_of w old) (view_of w mid) cs c.loop-i.i d lt (same_fixed w old mid inv.same) inv.may)
          (item_garbled w mid new (get_or cs c.loop-i.i d) head c.garbled.ensures.kept c.garbled.ensures.counted phase));
      says = rw c.garbled.ensures.fault (refl, inr (falls_short cs bytes c.loop-i.replies c.args.count b c.requires.answers part (subst (AreTold bytes c.loop-i.replies) end inv.told)));
      counted = c.garbled.ensures.counted ∙ ap one_more inv.counted;
      agreed = c.garbled.ensures.agreed ∙ inv.agreed;
    }
