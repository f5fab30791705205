-- The first answer that isn't good, of the least component, decides status and line.
use Rattle.std.proofs.Common.{◌≡◌, ◌⊎◌, inl, inr, ℕ, ◌<◌, List, [], ◌∷◌, ◌++◌, Option, Some, IfSome, refl, sym, ap, ap₂, ◌∙◌, subst, append_assoc, map, take}
use Rattle.std.specs.Prelude.{All, IsSomeAnd, unwrap_or}
use Rattle.std.specs.List.{slice_get}
use Rattle.std.proofs.lemmas.List.{append_cancel_left}
use Rattle.std.proofs.lemmas.List.Elements.{All-head, All-tail}
use Rattle.std.proofs.lemmas.Option.{same_Some, slice_get-map}
use Rattle.std.specs.Option.{option_map}
use Rattle.sim_base.specs.Causes.{Rose}
use Rattle.value_types.specs.declared.shape.Shape.{Shape}
use Rattle.fmu_peer.specs.declared.ended.Why.{Why}
use Rattle.fmu_peer.specs.declared.peer.Exchange.{Exchange}
use Rattle.fmu_peer.specs.Answer.{IsFirstBad, IsWhy}
use Rattle.fmu_peer.specs.Start.{SpawnerView}
use Rattle.fmu_peer.specs.Talk as T
use Rattle.fmu_peer.specs.View.{Fixed, Origin, View}
use Rattle.system_model.specs.declared.system.Component.{Component}
use Rattle.system_model.specs.declared.system.System.{System}
use Rattle.slot_calls.specs.declared.bad_answer.BadAnswer.{BadAnswer}
use Rattle.calling_sequence.specs.declared.run_end.RunEnd.{RunEnd}
use Rattle.calling_sequence.specs.declared.run_end.RunEnd.TheVariants as E
use Rattle.step_master.specs.Histories.{AreGood, ArePeerHistories, EndsHistories, IsLeastBad, IsPeerHistory, PeerHistory, shape_in, talk_in, talks_in}
use Rattle.slot_calls.specs.SavedStates.{IsOfClosing, IsParted, Talk}
use Rattle.slot_calls.specs.Log.{Sent}
use Rattle.run_program.specs.declared.outcome.Outcome.{Outcome}
use Rattle.run_program.specs.declared.outcome.End.{End}
use Rattle.run_program.specs.Message.{Reports, bad_message, end_message, end_status, why_status}
use Rattle.run_program.specs.Facts.{task_of}
use Rattle.run_program.specs.Happened.{Happened, Scene}
use Rattle.run_program.specs.Rows.{Answers, IsFirstBadOf, IsLeastBadOf, IsUncalled, TellPeers, talks_of}
use Rattle.run_program.specs.Runs.{Broke, HasRun, IsEndOf, IsUnasked, RunsPeers, Task, Went, names_of}
use Rattle.run_program.proofs.Exactly.{answers}
use Rattle.run_program.proofs.FirstBad.{in_run, no_bad, one_bad}
use Rattle.run_program.proofs.Outs.{TellsOut, tells_out}
use Rattle.run_program.proofs.PeerLemmas.{all_got, compare, mapped_at, slice_get-take_prefix, started_at}
use Rattle.run_program.proofs.Runs.{HasRunOne, ran_put}
use Rattle.run_program.proofs.When.{HasPut}

-- the histories of a run's peers, and how its end is told by them
pub record Histories (task : Task) (system : System) (end : RunEnd) (old new : Scene) : Type 0 where
  pub olds : List View
  pub news : List View
  pub peers : RunsPeers task system olds news old.spawner new.spawner
  pub log : List Sent
  pub histories : List PeerHistory
  pub are : ArePeerHistories system olds news log histories
  pub ends : EndsHistories end histories

pub histories_of : (task : Task) (system : System) (end : RunEnd) (old new : Scene) → HasRun task system end old new → Histories task system end old new
histories_of task system end old new (Went g) =
    let t = g.traces in
    let a = t.account in
    record {
      olds = a.olds;
      news = a.news;
      peers = t.peers;
      log = g.session.made ++ g.session.log;
      histories = g.session.histories;
      are = subst (λ (s : System). ArePeerHistories s a.olds a.news (g.session.made ++ g.session.log) g.session.histories) t.system_is g.session.are;
      ends = subst (λ (e : RunEnd). EndsHistories e g.session.histories) t.end_is g.session.ends;
    }
histories_of task system end old new (Broke bad is f) = record {
  olds = f.traces.account.olds;
  news = f.traces.account.news;
  peers = f.traces.peers;
  log = f.unmade.log;
  histories = f.unmade.histories;
  are = f.unmade.are;
  ends = subst (λ (e : RunEnd). EndsHistories e f.unmade.histories) (sym is) f.unmade.least;
}

-- ---- lists

-- each peer has its talk at its place
talk_there : (peers : List View) (talks : List (List Exchange)) (k : ℕ) (v : View) → map (λ (x : View). x.talk) peers ≡ map (λ (es : List Exchange). Some es) talks →
    slice_get peers k ≡ Some v → (talk : List Exchange) × (slice_get talks k ≡ Some talk)
talk_there peers talks k v same here =
    let at = mapped_at (λ (es : List Exchange). Some es) talks k v.talk
    (ap (λ xs. slice_get xs k) (sym same) ∙ slice_get-map (λ (x : View). x.talk) peers k ∙ ap (option_map (λ (x : View). x.talk)) here) in
    (at.0, at.1)

-- ---- a peer

-- the history of a peer that tells its talk
record Found (talks : List Talk) (histories : List PeerHistory) (olds : List View) (k : ℕ) (v : View) (talk : List Exchange) : Type 0 where
  history : PeerHistory
  here : slice_get histories k ≡ Some history
  is : IsPeerHistory history
  old : slice_get olds k ≡ Some history.old
  new : history.new ≡ v
  talk_is : talk ≡ history.run ++ history.closing
  parted : IsParted talks (shape_in history) history.run history.closing

told_talk : (history : PeerHistory) (v : View) (talk : List Exchange) → history.new ≡ v → v.talk ≡ Some talk → IfSome history.new.talk (λ (es : List Exchange). es ≡ talk_in history) → talk ≡ talk_in history
told_talk history v talk same told h =
    subst (λ (o : Option (List Exchange)). IfSome o (λ (es : List Exchange). es ≡ talk_in history)) (ap (λ (x : View). x.talk) same ∙ told) h

talk_at : (peers : List View) (talks : List (List Exchange)) (k : ℕ) (v : View) (talk : List Exchange) → map (λ (x : View). x.talk) peers ≡ map (λ (es : List Exchange). Some es) talks →
    slice_get peers k ≡ Some v → slice_get talks k ≡ Some talk → v.talk ≡ Some talk
talk_at peers talks k v talk same here there =
    same_Some v.talk (Some talk)
    (sym (ap (option_map (λ (x : View). x.talk)) here) ∙ sym (slice_get-map (λ (x : View). x.talk) peers k) ∙ ap (λ xs. slice_get xs k) same
    ∙ slice_get-map (λ (es : List Exchange). Some es) talks k ∙ ap (option_map (λ (es : List Exchange). Some es)) there)

-- the talks that peers tell are those of their histories
whole_talk : (history : PeerHistory) (talk : List Exchange) → IsPeerHistory history → history.new.talk ≡ Some talk → unwrap_or history.new.talk [] ≡ talk_in history
whole_talk history talk is told = ap (λ (o : Option (List Exchange)). unwrap_or o []) told ∙ told_talk history history.new talk refl told is.talk

abbrev talk_record : Shape → List Exchange → Talk
talk_record shape exchanges = record { shape = shape; exchanges = exchanges }

told_history : (history : PeerHistory) (talk : List Exchange) → IsPeerHistory history → history.new.talk ≡ Some talk →
    talk_record history.new.fixed.shape (unwrap_or history.new.talk []) ≡ talk_record (shape_in history) (talk_in history)
told_history history talk is told = ap₂ talk_record (ap (λ (f : Fixed). f.shape) is.fixed) (whole_talk history talk is told)

talks_same : (histories : List PeerHistory) (talks : List (List Exchange)) → All IsPeerHistory histories → map (λ (v : View). v.talk) (map (λ (l : PeerHistory). l.new) histories) ≡ map (λ (es : List Exchange). Some es) talks →
    talks_of (map (λ (l : PeerHistory). l.new) histories) ≡ talks_in histories
talks_same [] talks each same = refl
talks_same (l ∷ histories) [] each same = absurd (cc)
talks_same (l ∷ histories) (es ∷ talks) each same =
    ap₂ ◌∷◌ (told_history l es (All-head IsPeerHistory l histories each) (first same)) (talks_same histories talks (All-tail IsPeerHistory l histories each) (rest same))
  where
    first : {a b : Option (List Exchange)} {xs ys : List (Option (List Exchange))} → a ∷ xs ≡ b ∷ ys → a ≡ b
    first h = cc

    rest : {a b : Option (List Exchange)} {xs ys : List (Option (List Exchange))} → a ∷ xs ≡ b ∷ ys → xs ≡ ys
    rest h = cc

module _ (task : Task) (system : System) (end : RunEnd) (old new : Scene) (l : Histories task system end old new) where
  found : (talks : List (List Exchange)) (k : ℕ) (v : View) (talk : List Exchange) → map (λ (x : View). x.talk) l.news ≡ map (λ (es : List Exchange). Some es) talks →
      slice_get l.news k ≡ Some v → slice_get talks k ≡ Some talk → Found (talks_of l.news) l.histories l.olds k v talk
  found talks k v talk same here there =
      let at = mapped_at (λ (x : PeerHistory). x.new) l.histories k v (ap (λ xs. slice_get xs k) l.are.news_are ∙ here) in
      let history : PeerHistory = at.0 in
      let is : IsPeerHistory history = all_got IsPeerHistory l.histories k history l.are.each at.1 in
      record {
        history = history;
        here = at.1;
        is = is;
        old = ap (λ xs. slice_get xs k) (sym l.are.olds_are) ∙ slice_get-map (λ (x : PeerHistory). x.old) l.histories k ∙ ap (option_map (λ (x : PeerHistory). x.old)) at.1;
        new = at.2;
        talk_is = told_talk history v talk at.2 (talk_at l.news talks k v talk same here there) is.talk;
        parted = all_got (λ (x : PeerHistory). IsParted (talks_of l.news) (shape_in x) x.run x.closing) l.histories k history
            (subst (λ (ts : List Talk). All (λ (x : PeerHistory). IsParted ts (shape_in x) x.run x.closing) l.histories)
            (sym (talks_same l.histories talks l.are.each (ap (map (λ (x : View). x.talk)) l.are.news_are ∙ same)) ∙ ap talks_of l.are.news_are) l.are.parted) at.1;
      }

  shape_same : (k : ℕ) (v : View) (talk : List Exchange) (f : Found (talks_of l.news) l.histories l.olds k v talk) → v.fixed.shape ≡ f.history.old.fixed.shape
  shape_same k v talk f = ap (λ (x : Fixed). x.shape) (sym (ap (λ (x : View). x.fixed) f.new) ∙ f.is.fixed)

  -- a first bad answer that the peer tells is one of its run
  bad_in : (k : ℕ) (v : View) (talk : List Exchange) (why : Why) (f : Found (talks_of l.news) l.histories l.olds k v talk) → (b : IsFirstBadOf (talks_of l.news) v.fixed.shape why talk) →
      (rest : List Exchange) × (f.history.run ≡ b.prefix ++ b.last ∷ rest)
  bad_in k v talk why f b = in_run (talks_of l.news) (shape_in f.history) f.history.run f.history.closing talk b.prefix b.rest b.last f.talk_is f.parted b.is
      (subst (λ (shape : Shape). IsOfClosing (talks_of l.news) shape b.prefix b.last.call b.rest → ⊥) (shape_same k v talk f) b.of_run)

  -- its name is that of its component
  name_is : (k : ℕ) (v : View) (talk : List Exchange) (name : List ℕ) (f : Found (talks_of l.news) l.histories l.olds k v talk) → IsSomeAnd v.fixed.origin (λ (o : Origin). o.name ≡ name) → slice_get (names_of system).components k ≡ Some name
  name_is k v talk name f h =
      let s = started_at task.host task.folders system.components l.olds k f.history.old l.peers.are f.old in
      let origin = ap (λ (x : Fixed). x.origin) (sym (ap (λ (x : View). x.fixed) f.new) ∙ f.is.fixed) ∙ s.2.1.origin in
      let same : s.0.name ≡ name = subst (λ (o : Option Origin). IsSomeAnd o (λ (x : Origin). x.name ≡ name)) origin h in
      slice_get-map (λ (c : Component). c.name) system.components k ∙ ap (option_map (λ (c : Component). c.name)) s.1 ∙ ap Some same

  bad_here : (k : ℕ) (v : View) (talk : List Exchange) (why : Why) (f : Found (talks_of l.news) l.histories l.olds k v talk) → (b : IsFirstBadOf (talks_of l.news) v.fixed.shape why talk) → IsWhy f.history.old.fixed.shape why b.last
  bad_here k v talk why f b = subst (λ (s : Shape). IsWhy s why b.last) (shape_same k v talk f) b.bad

  prefix_here : (k : ℕ) (v : View) (talk : List Exchange) (why : Why) (f : Found (talks_of l.news) l.histories l.olds k v talk) → (b : IsFirstBadOf (talks_of l.news) v.fixed.shape why talk) → T.AllGood f.history.old.fixed.shape b.prefix
  prefix_here k v talk why f b = subst (λ (s : Shape). T.AllGood s b.prefix) (shape_same k v talk f) b.good

  -- where the run's answers are good there is none
  good_none : {A : Type 0} (k : ℕ) (v : View) (talk : List Exchange) (why : Why) (f : Found (talks_of l.news) l.histories l.olds k v talk) → IsFirstBadOf (talks_of l.news) v.fixed.shape why talk → T.AllGood f.history.old.fixed.shape f.history.run → A
  good_none k v talk why f b good =
      let r = bad_in k v talk why f b in
      no_bad f.history.old.fixed.shape f.history.run why b.prefix r.0 b.last good r.1 (bad_here k v talk why f b)

  -- the peer of the least bad answer tells it
  tells_bad : (talks : List (List Exchange)) (bad : BadAnswer) (least : IsLeastBad bad l.histories) (v : View) (talk : List Exchange) → (f : Found (talks_of l.news) l.histories l.olds bad.component.0 v talk) → IsFirstBadOf (talks_of l.news) v.fixed.shape bad.why talk
  tells_bad talks bad least v talk f =
      let same : least.history ≡ f.history = same_Some least.history f.history (sym least.here ∙ f.here) in
      let first : IsFirstBad f.history.old.fixed.shape bad.why f.history.run = subst (λ (x : PeerHistory). IsFirstBad x.old.fixed.shape bad.why x.run) same least.first in
      let back = λ (P : Shape → Type 0) (p : P f.history.old.fixed.shape). subst P (sym (shape_same bad.component.0 v talk f)) p in
      record {
        prefix = first.prefix;
        last = first.last;
        rest = f.history.closing;
        is = f.talk_is ∙ ap (λ (es : List Exchange). es ++ f.history.closing) first.is ∙ append_assoc first.prefix (first.last ∷ []) f.history.closing;
        good = back (λ s. T.AllGood s first.prefix) first.good;
        bad = back (λ s. IsWhy s bad.why first.last) first.bad;
        of_run = f.parted.of_run first.prefix [] first.last first.is;
      }

  -- of two answers that aren't good the one is the other
  module _ (talks : List (List Exchange)) (told : map (λ (x : View). x.talk) l.news ≡ map (λ (es : List Exchange). Some es) talks) (name : List ℕ) (why : Why) (b : IsLeastBadOf l.news talks name why) where
    mine : Found (talks_of l.news) l.histories l.olds b.place b.peer b.talk
    mine = found talks b.place b.peer b.talk told b.here b.told

    pub all_good : {A : Type 0} → AreGood l.histories → A
    all_good good = good_none b.place b.peer b.talk why mine b.first (all_got (λ (x : PeerHistory). T.AllGood (shape_in x) x.run) l.histories b.place mine.history good mine.here)

    pub same_bad : (bad : BadAnswer) (other : List ℕ) → IsLeastBad bad l.histories → slice_get (names_of system).components bad.component.0 ≡ Some other → (other ≡ name) × (bad.why ≡ why)
    same_bad bad other least named = by (compare b.place bad.component.0)
      where
        by : (b.place < bad.component.0) ⊎ ((b.place ≡ bad.component.0) ⊎ (bad.component.0 < b.place)) → (other ≡ name) × (bad.why ≡ why)
        by (inl before) =
            let there : slice_get (take bad.component.0 l.histories) b.place ≡ Some mine.history = slice_get-take_prefix l.histories bad.component.0 b.place before ∙ mine.here in
            good_none b.place b.peer b.talk why mine b.first (all_got (λ (x : PeerHistory). T.AllGood (shape_in x) x.run) (take bad.component.0 l.histories) b.place mine.history least.before there)
        by (inr (inl same)) =
            let history_is : least.history ≡ mine.history = same_Some least.history mine.history (sym least.here ∙ ap (slice_get l.histories) (sym same) ∙ mine.here) in
            let first : IsFirstBad mine.history.old.fixed.shape bad.why mine.history.run = subst (λ (x : PeerHistory). IsFirstBad x.old.fixed.shape bad.why x.run) history_is least.first in
            let r = bad_in b.place b.peer b.talk why mine b.first in (
              same_Some other name (sym named ∙ ap (slice_get (names_of system).components) (sym same) ∙ name_is b.place b.peer b.talk name mine b.named),
              one_bad mine.history.old.fixed.shape mine.history.run b.first.prefix r.0 b.first.last bad.why why first r.1 (prefix_here b.place b.peer b.talk why mine b.first) (bad_here b.place b.peer b.talk why mine b.first),
            )
        by (inr (inr after)) =
            let v = least.history.new in
            let at : slice_get l.news bad.component.0 ≡ Some v = ap (λ xs. slice_get xs bad.component.0) (sym l.are.news_are) ∙ slice_get-map (λ (x : PeerHistory). x.new) l.histories bad.component.0 ∙ ap (option_map (λ (x : PeerHistory). x.new)) least.here in
            let talk = talk_there l.news talks bad.component.0 v told at in
            absurd (b.before bad.component.0 v talk.0 bad.why after at talk.1 (tells_bad talks bad least v talk.0 (found talks bad.component.0 v talk.0 told at talk.1)))

-- ---- the outcome

end_decides : (task : Task) (system : System) (end : RunEnd) (e : End) (h : Happened) (l : Histories task system end h.old.run h.new.run) (talks : List (List Exchange)) →
    map (λ (x : View). x.talk) l.news ≡ map (λ (es : List Exchange). Some es) talks → (name : List ℕ) (why : Why) → IsLeastBadOf l.news talks name why → IsEndOf (names_of system) end e →
    Reports (end_message e) (end_status e) h.status h.err h.err_after → (Rose h.old.run.out.faults h.new.run.out.faults → ⊥) → TellsOut end h.old.run.out.faults h.new.run.out.faults → Answers h (why_status why) (bad_message name why)
end_decides task system E.Stop e h l talks told name why b named p quiet outs = all_good task system E.Stop h.old.run h.new.run l talks told name why b l.ends
end_decides task system (E.Asked point) e h l talks told name why b named p quiet outs = all_good task system (E.Asked point) h.old.run h.new.run l talks told name why b l.ends
end_decides task system (E.EventLimit point) e h l talks told name why b named p quiet outs = all_good task system (E.EventLimit point) h.old.run h.new.run l talks told name why b l.ends
end_decides task system (E.FixedStep component at end) e h l talks told name why b named p quiet outs = all_good task system (E.FixedStep component at end) h.old.run h.new.run l talks told name why b l.ends
end_decides task system (E.Range lost at) e h l talks told name why b named p quiet outs = all_good task system (E.Range lost at) h.old.run h.new.run l talks told name why b l.ends
end_decides task system (E.Bad bad) e h l talks told name why b named p quiet outs =
    let same = same_bad task system (E.Bad bad) h.old.run h.new.run l talks told name why b bad named.0 l.ends named.1 in
    let put : Reports (Some (bad_message named.0 bad.why)) (why_status bad.why) h.status h.err h.err_after = subst (λ (x : End). Reports (end_message x) (end_status x) h.status h.err h.err_after) named.2 p in
    subst (λ (w : Why). Answers h (why_status w) (bad_message name w)) same.1 (subst (λ (n : List ℕ). Answers h (why_status bad.why) (bad_message n bad.why)) same.0 (answers (bad_message named.0 bad.why) (why_status bad.why) h put))
end_decides task system (E.Held point) e h l talks told name why b named p quiet outs = absurd outs
end_decides task system E.WriteFault e h l talks told name why b named p quiet outs = absurd (quiet outs)

pub decides : (o : Outcome) (h : Happened) → HasPut o h → IsUncalled h ⊎ HasRunOne o h → (peers : List View) (talks : List (List Exchange)) (name : List ℕ) (why : Why) →
    TellPeers h peers talks → IsLeastBadOf peers talks name why → Answers h (why_status why) (bad_message name why)
decides o h p (inl idle) peers talks name why told b =
    let same : peers ≡ idle.peers = append_cancel_left h.old.run.spawner.retired peers idle.peers (sym told.retired ∙ idle.retired) in
    let quiet : IsUnasked b.peer = all_got IsUnasked idle.peers b.place b.peer idle.unasked (ap (λ xs. slice_get xs b.place) (sym same) ∙ b.here) in
    let none : b.talk ≡ [] = subst (λ (x : Option (List Exchange)). IfSome x (λ es. es ≡ [])) (talk_at peers talks b.place b.peer b.talk told.talks_are b.here b.told) quiet.talk in
    absurd (no_last b.first.prefix b.first.rest b.first.last (sym none ∙ b.first.is))
  where
    no_last : (prefix rest : List Exchange) (last : Exchange) → [] ≡ prefix ++ last ∷ rest → ⊥
    no_last [] rest last e = cc
    no_last (x ∷ prefix) rest last e = cc
decides o h p (inr one) peers talks name why told b =
    let task = task_of one.it.asked one.it.loaded in
    let system = one.it.loaded.system in
    let l = histories_of task system one.end h.old.run h.new.run one.run in
    let retired : h.new.run.spawner.retired ≡ h.old.run.spawner.retired ++ l.news = ap (λ (s : SpawnerView). s.retired) l.peers.told in
    let same : peers ≡ l.news = append_cancel_left h.old.run.spawner.retired peers l.news (sym told.retired ∙ retired) in
    end_decides task system one.end one.e h l talks (ap (map (λ (x : View). x.talk)) (sym same) ∙ told.talks_are) name why (subst (λ (vs : List View). IsLeastBadOf vs talks name why) same b) one.named
    (ran_put o h p one) told.quiet (tells_out task system one.end h.old.run h.new.run one.run)
