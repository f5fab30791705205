-- Peers whose machines aren't told are closed as those whose machines are.
use Rattle.std.proofs.Common.{◌≡◌, ◌⊎◌, inl, inr, ℕ, Bool, false, List, [], ◌∷◌, ◌++◌, refl, sym, ap, ◌∙◌, subst, map}
use Rattle.std.specs.Prelude.{All, ◌||◌, ◌&&◌, ◌==◌, if◌then◌else◌}
use Rattle.std.proofs.lemmas.List.{length-map, map-append}
use Rattle.std.proofs.lemmas.List.Elements.{All-cons, All-head, All-nil, All-tail}
use Rattle.fmi_calls.specs.declared.call.Call.{Call}
use Rattle.fmu_peer.specs.declared.peer.Exchange.{Exchange}
use Rattle.fmu_peer.specs.Close.{SendsInTurn, closing_calls}
use Rattle.fmu_peer.specs.CloseAll.{ClosesAll, ClosesOne, Closing, InOrder, Instance, KnowsFatal, afters, befores, is_source_lost, member_of}
use Rattle.fmu_peer.specs.CloseAll as K
use Rattle.fmu_peer.specs.Siblings.{Siblings}
use Rattle.fmu_peer.specs.Talk.{StartsBadly}
use Rattle.fmu_peer.specs.View.{View, without_machine}
use Rattle.fmu_peer.proofs.CallerLemmas.{asked_without}
use Rattle.system_model.specs.declared.system.Component.{Component}
use Rattle.system_model.specs.declared.system.System.{System}
use Rattle.slot_calls.specs.Keeping.{without_machine_in, without_machines}
use Rattle.step_master.specs.Master.{Closes}
use Rattle.step_master.specs.FreshInstances.{fresh_instances, views_of}
use Rattle.step_master.specs.System.{ArePeersOf, IsNew}
use Rattle.step_master.proofs.CallerLemmas.{unmapped}

-- ---- slots

pub fresh_without : (cs : List Component) (vs : List View) → fresh_instances cs (map without_machine vs) ≡ without_machines (fresh_instances cs vs)
fresh_without [] vs = refl
fresh_without (c ∷ cs) [] = refl
fresh_without (c ∷ cs) (v ∷ vs) = ap (λ (l : List Instance). without_machine_in (record { source = c.source.0; view = v; has_saved = false; is_fatal = false; is_closed = false }) ∷ l) (fresh_without cs vs)

pub views_without : (xs : List Instance) → views_of (without_machines xs) ≡ map without_machine (views_of xs)
views_without [] = refl
views_without (x ∷ xs) = ap (λ (l : List View). without_machine x.view ∷ l) (views_without xs)

pub peers_without : (system : System) (vs : List View) → ArePeersOf system vs → ArePeersOf system (map without_machine vs)
peers_without system vs peers = record {
  len = length-map vs without_machine ∙ peers.len;
  each = λ i c w component is.
      let u = unmapped without_machine vs i w is in
      let new = peers.each i c u.0 component u.1 in
      subst (IsNew c.shape) (sym u.2) (record { shape_is = new.shape_is; phase = new.phase; talk = new.talk });
}

-- ---- closings

abbrev closing_without : Closing → Closing
closing_without c = record { old = without_machine_in c.old; sent = c.sent; new = without_machine_in c.new }

turn_without : (calls : List Call) (v : View) (sent : List Exchange) (w : View) → SendsInTurn calls v sent w → SendsInTurn calls (without_machine v) sent (without_machine w)
turn_without [] v sent w (none, same) = (none, ap without_machine same)
turn_without (c ∷ cs) v sent w (inl (may, (result, rest, mid, is, asked, more))) = inl (may, (result, rest, without_machine mid, is, asked_without v mid c result asked, turn_without cs mid rest w more))
turn_without (c ∷ cs) v sent w (inr (never, more)) = inr (never, turn_without cs v sent w more)

module _ (i : Instance) (talk : List Exchange) where
  stands_with : K.Stands (without_machine_in i) talk → K.Stands i talk
  stands_with s = record { alive = s.alive; kept = s.kept }

  left_with : K.IsLeft (without_machine_in i) talk → K.IsLeft i talk
  left_with l = record { leads = l.leads; stands = by l.stands } where
    by : (talk ≡ []) ⊎ (StartsBadly i.view.fixed.shape talk ⊎ K.Stands (without_machine_in i) talk) → (talk ≡ []) ⊎ (StartsBadly i.view.fixed.shape talk ⊎ K.Stands i talk)
    by (inl none) = inl none
    by (inr (inl bad)) = inr (inl bad)
    by (inr (inr stands)) = inr (inr (stands_with stands))

one_without : (spared : Bool) (c : Closing) → ClosesOne spared c → ClosesOne spared (closing_without c)
one_without spared c one = record {
  turn = turn_without (if spared then [] else closing_calls c.old.has_saved) c.old.view c.sent c.new.view one.turn;
  source = one.source;
  spent = one.spent;
  shut = one.shut;
  fatal = one.fatal;
  closed = λ unspared talk left. one.closed unspared talk (left_with c.old talk left);
}

lost_without : (source : ℕ) (xs : List Instance) → is_source_lost source (without_machines xs) ≡ is_source_lost source xs
lost_without source [] = refl
lost_without source (x ∷ xs) = ap (λ (b : Bool). (x.is_fatal && x.source == source) || b) (lost_without source xs)

befores_without : (cs : List Closing) → befores (map closing_without cs) ≡ without_machines (befores cs)
befores_without [] = refl
befores_without (c ∷ cs) = ap (λ (l : List Instance). without_machine_in c.old ∷ l) (befores_without cs)

afters_without : (cs : List Closing) → afters (map closing_without cs) ≡ without_machines (afters cs)
afters_without [] = refl
afters_without (c ∷ cs) = ap (λ (l : List Instance). without_machine_in c.new ∷ l) (afters_without cs)

order_without : (closed : List Instance) (cs : List Closing) → InOrder closed cs → InOrder (without_machines closed) (map closing_without cs)
order_without closed [] order = tt
order_without closed (c ∷ cs) (one, more) =
    let lost : is_source_lost c.old.source (without_machines closed ++ without_machine_in c.old ∷ befores (map closing_without cs)) ≡ is_source_lost c.old.source (closed ++ c.old ∷ befores cs) =
    ap (λ (l : List Instance). is_source_lost c.old.source (without_machines closed ++ without_machine_in c.old ∷ l)) (befores_without cs)
    ∙ ap (is_source_lost c.old.source) (sym (map-append without_machine_in closed (c.old ∷ befores cs))) ∙ lost_without c.old.source (closed ++ c.old ∷ befores cs) in (
      subst (λ (b : Bool). ClosesOne b (closing_without c)) (sym lost) (one_without (is_source_lost c.old.source (closed ++ c.old ∷ befores cs)) c one),
      subst (λ (l : List Instance). InOrder l (map closing_without cs)) (map-append without_machine_in closed (c.new ∷ [])) (order_without (closed ++ c.new ∷ []) cs more),
    )

knows_with : (xs : List Instance) → All KnowsFatal (without_machines xs) → All KnowsFatal xs
knows_with [] all = All-nil KnowsFatal
knows_with (x ∷ xs) all =
    All-cons KnowsFatal x xs (All-head KnowsFatal (without_machine_in x) (without_machines xs) all) (knows_with xs (All-tail KnowsFatal (without_machine_in x) (without_machines xs) all))

members_without : (cs : List Closing) → map member_of (map closing_without cs) ≡ map member_of cs
members_without [] = refl
members_without (c ∷ cs) = ap (λ (l : List _). member_of c ∷ l) (members_without cs)

closes_all_without : (olds news : List Instance) → ClosesAll olds news → ClosesAll (without_machines olds) (without_machines news)
closes_all_without olds news c = record {
  closings = map closing_without c.closings;
  old_is = ap without_machines c.old_is ∙ sym (befores_without c.closings);
  new_is = ap without_machines c.new_is ∙ sym (afters_without c.closings);
  order = order_without [] c.closings c.order;
  siblings = λ all. subst Siblings (sym (members_without c.closings)) (c.siblings (knows_with olds all));
}

pub closes_without : (olds : List Instance) (news : List View) → Closes olds news → Closes (without_machines olds) (map without_machine news)
closes_without olds news c = record {
  ends = without_machines c.ends;
  closes = closes_all_without olds c.ends c.closes;
  news_are = ap (map without_machine) c.news_are ∙ sym (views_without c.ends);
}
