-- Where an answer in an agreed step of told machines is bad: what its FMU was asked, and in which state.
use Rattle.std.proofs.Common.{◌≡◌, ◌≢◌, ◌⊎◌, inl, inr, ℕ, zero, suc, ◌+◌, ◌-◌, ◌<◌, ◌==◌, Bool, true, false, not, List, [], ◌∷◌, ◌++◌, Option, Some, None, refl, sym, ap, ap₂, ◌∙◌, subst, arith, append-nil, append_assoc, length, map}
use Rattle.std.specs.Prelude.{All, ◌&&◌, if◌then◌else◌}
use Rattle.std.specs.List.{slice_get}
use Rattle.std.specs.Option.{option_map, option_map_or}
use Rattle.std.proofs.lemmas.Bool.Decides.{nat_tests}
use Rattle.std.proofs.lemmas.List.{length-map}
use Rattle.std.proofs.lemmas.List.Elements.{All-append, All-head}
use Rattle.std.proofs.lemmas.Option.{none-some as none_some, same_Some, slice_get-map, slice_get_within}
use Rattle.value_types.specs.declared.shape.Shape.{Shape}
use Rattle.fmi_calls.specs.declared.call.Call.{Call}
use Rattle.fmi_calls.specs.declared.call.Call.TheVariants as C
use Rattle.fmu_peer.specs.declared.peer.Exchange.{Exchange}
use Rattle.fmu_peer.specs.Machine.{IgnoresSlot, Machine, MachineState, SavedMachine, after}
use Rattle.system_model.specs.EarlyReturn.{early_count}
use Rattle.system_model.specs.declared.system.Component.{Component}
use Rattle.run_model.specs.Run.{IsFmu, Run, each_from}
use Rattle.run_model.specs.Steps.{AskedAgain, AskedFirst, AskedLater, FixedStep, IsAsked, MayAsk, MayAskAgain, Stepper, is_other, met}
use Rattle.run_model.specs.Stepping.{asked_first, end_in, ending, is_asked_first, step_to}
use Rattle.run_model.proofs.CallerLemmas.{each-get}
use Rattle.slot_calls.specs.Log.{Sent, component_calls, part}
use Rattle.slot_calls.specs.Replies.{AreReplies, RepliesBy, state_by}
use Rattle.slot_calls.specs.Stage.{IsAnswered, IsFirst, IsGoodOf, shapes_of}
use Rattle.slot_calls.specs.declared.bad_answer.BadAnswer.{BadAnswer}
use Rattle.slot_calls.proofs.CallerLemmas.{part_append, replies_prefix, same, state_by_append, takes}
use Rattle.step_agreement.specs.Agreement.{Agrees, Asks, Fails, InBack, InStep, IsUnfit, Stand, Stops, are_at, comes_first, ends_elsewhere, everyone, is_away, is_elsewhere, putting_back, reached, shapes_in, stand_by, stands_by, stepping, unfit}
use Rattle.step_agreement.specs.Ends.{AllOfThem, AreEnds, ComeFirst, EndsAs, Fmu, OneAlone, standing, stepper_of}
use Rattle.step_agreement.specs.OverMachines.{IgnoreSlots, IsSavedOne, RestoresSaved, asks_last, fmus_of, saved_states, slot_in, steppers_of, with_slot}
use Rattle.step_agreement.proofs.Agreed as A
use Rattle.step_agreement.proofs.Agreed.{all_back, all_prefix, at_map, ends_back, ends_prefix}
use Rattle.step_agreement.proofs.Lists.{Each}
use Rattle.step_agreement.proofs.Machines.{NotBefore, asks_later, each_here, known_end, leads_asked, leads_none, leads_then, reached_later, who_first}
use Rattle.step_agreement.proofs.Moves.{IsEnd}
use Rattle.step_agreement.proofs.Rounds.{OneIf, part_of}
use Rattle.step_agreement.proofs.Tracks as T
use Rattle.step_agreement.proofs.Tracks.{stand_here}
use Rattle.step_agreement.proofs.Turns.{turn}
use Rattle.step_agreement.proofs.Underway.{Anew, Begins, Closes, IsUnder, Lasts, Met, Next, Others, Stopped, Underway, is_under, lasts}

equal : (a b : ℕ) → (a == b) ≡ true → a ≡ b
equal a b q = grind (arith, nat_tests)

unequal : (a b : ℕ) → (a == b) ≡ false → a ≢ b
unequal a b q = grind (arith, nat_tests)

unnot : (x : Bool) → not x ≡ true → x ≡ false
unnot true h = absurd (cc)
unnot false h = refl

-- ---- one machine between two askings

module _ (m : Machine) (ignores : IgnoresSlot m) (before : MachineState) (slot : Option SavedMachine) (t : ℕ) (f : Fmu) (f_is : (e : ℕ) → IsEnd f.shape t (e - t) (end_in m before t e) → f.end e ≡ end_in m before t e) (step i : ℕ) (first : Shape → Bool) where
  abbrev Here : Stand → MachineState → Bool → Type 0
  Here s state asks = T.IsHere m ignores before slot t f f_is s state asks

  abbrev Leads : Stand → MachineState → Bool → List Exchange → Type 0
  Leads s state asks es = T.Leads m ignores before slot t f f_is s state asks es

  abbrev Saved : Exchange → Type 0
  Saved e = T.IsSaved m ignores before slot t f f_is e

  track : (b : ℕ) (stands : List Stand) (log : List Sent) (next : Next) → Underway t step first b stands log next → t < b → Each (NotBefore t) stands → (s : Stand) → slice_get stands i ≡ Some s → s.shape ≡ f.shape → (state : MachineState) (asks : Bool) → Here s state asks →
      All Saved (part i log) → RepliesBy m state (part i log) → Leads s state asks (part i log)
  track _ _ _ _ (Begins b stands log next none is) later low s at shape_is state asks here saved replies = leads_none m ignores before slot t f f_is step first i s state asks log none here
  track _ _ _ _ (Others b stands log next asked apart is) later low s at shape_is state asks here saved replies =
      leads_asked m ignores before slot t f f_is step first i everyone (comes_first first) b stands log asked later s at shape_is state asks here saved replies
  track _ _ _ _ (Anew b stands log next prefix back rest asked apart asked2 beyond more log_is) later low s at shape_is state asks here saved replies =
      let p = reached t b (stands_by t stands prefix) in
      let low_mids = asks_later t step everyone (comes_first first) b stands prefix asked low in
      let p_later = reached_later t b (stands_by t stands prefix) later low_mids in
      let low_lasts = asks_later t step (ends_elsewhere t b p) (is_elsewhere p) p (stands_by t stands prefix) back asked2 low_mids in
      let c_later = reached_later t p (stands_by t (stands_by t stands prefix) back) p_later low_lasts in
      subst (λ (l : List Sent). Leads s state asks (part i l)) (sym log_is)
      (leads_then m ignores before slot t f f_is step first i everyone (comes_first first) b stands prefix (back ++ rest) asked later s at shape_is state asks here
      (subst (λ (l : List Sent). All Saved (part i l)) log_is saved) (subst (λ (l : List Sent). RepliesBy m state (part i l)) log_is replies)
      (λ y z a y_at y_shape y_here y_saved y_replies.
      leads_then m ignores before slot t f f_is step first i (ends_elsewhere t b p) (is_elsewhere p) p (stands_by t stands prefix) back rest asked2 p_later y y_at y_shape z a y_here y_saved y_replies
      (λ u v d u_at u_shape u_here u_saved u_replies. track (reached t p (stands_by t (stands_by t stands prefix) back)) (stands_by t (stands_by t stands prefix) back) rest next more c_later low_lasts u u_at u_shape v d u_here u_saved u_replies)))

-- ---- what they are asked

-- one comes first alone, which isn't so, or all do
either_first : {X : Type 0} (first : Shape → Bool) (t : ℕ) (fmus : List Fmu) → ComeFirst first t fmus →
    (((i j : ℕ) (f g : Fmu) → slice_get fmus i ≡ Some f → slice_get fmus j ≡ Some g → first f.shape ≡ true → first g.shape ≡ true → i ≡ j) → ⊥) → (Each (λ (f : Fmu). first f.shape ≡ true) fmus → X) → X
either_first first t fmus (AllOfThem all) never go = go all
either_first first t fmus (OneAlone one others) never go = absurd (never one)

module _ (t step : ℕ) (fmus : List Fmu) (first : Shape → Bool) (who : ComeFirst first t fmus) (comes : ℕ → Bool) (comes_is : (i : ℕ) (f : Fmu) → slice_get fmus i ≡ Some f → comes i ≡ first f.shape) where
  abbrev steppers : List Stepper
  steppers = map stepper_of fmus

  -- where the i-th stands, it may be asked what is asked next, and it was asked what it was asked last
  pub record IsAskedSo (P : ℕ → ℕ → Type 0) (next : Next) (i : ℕ) (f : Fmu) : Type 0 where
    pub stand : Stand
    pub at : slice_get next.stands i ≡ Some stand
    pub may : next.test stand ≡ true → P i next.e
    pub was : (stand.point ≡ t) ⊎ P i stand.ask

  abbrev AreAskedSo : (ℕ → ℕ → Type 0) → Next → Type 0
  AreAskedSo P next = (i : ℕ) (f : Fmu) → slice_get fmus i ≡ Some f → IsAskedSo P next i f

  abbrev stand_of : (Fmu → ℕ) → (Fmu → ℕ) → Fmu → Stand
  stand_of g q f = record { shape = f.shape; point = g f; ask = q f }

  abbrev Waits : (Fmu → ℕ) → Type 0
  Waits g = Each (λ (f : Fmu). first f.shape ≡ false → g f ≡ t) fmus

  module _ (g q : Fmu → ℕ) (waits : Each (λ (f : Fmu). first f.shape ≡ false → g f ≡ t) fmus) (b : ℕ) (later : t < b) (prefix : List Sent) (asks : Asks t step everyone (comes_first first) b (map (stand_of g q) fmus) prefix) (ends : AreEnds t fmus prefix) where
    abbrev first_points : Fmu → ℕ
    first_points = A.first_points t step fmus first who g q waits b later prefix asks ends

    abbrev first_asks : Fmu → ℕ
    first_asks = A.first_asks t step fmus first who g q waits b later prefix asks ends

    abbrev firsts : List Stand
    firsts = A.firsts t step fmus first who g q waits b later prefix asks ends

    firsts_are : stands_by t (map (stand_of g q) fmus) prefix ≡ firsts
    firsts_are = A.firsts_are t step fmus first who g q waits b later prefix asks ends

    may_first : MayAsk steppers t step b
    may_first = A.may_first t step fmus first who g q waits b later prefix asks ends

    point_asked : (f : Fmu) → first f.shape ≡ true → first_points f ≡ f.end b
    point_asked f h = A.asked_point t step fmus first who g q waits b later prefix asks ends f h

    module _ (m : ℕ) (m_is : m ≡ reached t b (A.firsts t step fmus first who g q waits b later prefix asks ends)) where
      m_met : m ≡ met steppers b
      m_met = A.m_met t step fmus first who g q waits b later prefix asks ends m m_is

      may_next : unfit step (m - t) (ends_elsewhere t b m) firsts ≡ None → MayAskAgain steppers t step b
      may_next fits = subst (λ (n : ℕ). (i : ℕ) → FixedStep steppers (is_other b n) t step i n → ⊥) m_met
          (A.may t step fmus (A.stand_of t step fmus first_points first_asks) (ends_elsewhere t b m) (is_other b m) m
          (A.same_other t step fmus first who g q waits b later prefix asks ends m m_is) fits)

      -- one that ends elsewhere is asked again
      asked_again : MayAskAgain steppers t step b → (i : ℕ) (f : Fmu) → slice_get fmus i ≡ Some f → f.end b ≢ m → IsAsked steppers comes t step b i m
      asked_again again i f at ne =
          let low = A.low t step fmus first who g q waits b later prefix asks ends m m_is i f at in
          let within = A.first_within t step fmus first who g q waits b later prefix asks ends i f at in
          let same = m_met in
          AskedAgain b i m may_first (λ e. ne (omega (arith, low, within, e, same))) again (stepper_of f) (at_map stepper_of fmus i f at) (λ e. ne (e ∙ sym m_met)) m_met

      -- and so is one that stands elsewhere, also where it waited
      other_asked : MayAskAgain steppers t step b → (i : ℕ) (f : Fmu) → slice_get fmus i ≡ Some f → first_points f ≢ m → IsAsked steppers comes t step b i m
      other_asked again i f at ne = by (first f.shape) refl where
        by : (x : Bool) → first f.shape ≡ x → IsAsked steppers comes t step b i m
        by true is = asked_again again i f at (λ e. ne (point_asked f is ∙ e))
        by false is = waiting (m == b) refl where
          waiting : (x : Bool) → (m == b) ≡ x → IsAsked steppers comes t step b i m
          waiting true same = let e = equal m b same in AskedFirst b i m may_first (inr (sym m_met ∙ e)) e
          waiting false apart = asked_again again i f at (λ e. unequal m b apart (sym e ∙ A.whole t step fmus first who i f at is b later))

      -- all begin anew
      module _ (back : List Sent) (asks2 : Asks t step (ends_elsewhere t b m) (is_elsewhere m) m (A.firsts t step fmus first who g q waits b later prefix asks ends) back) (ends2 : AreEnds t fmus back) where
        abbrev next_points : Fmu → ℕ
        next_points = A.next_points t step fmus first who g q waits b later prefix asks ends m m_is back asks2 ends2

        abbrev next_asks : Fmu → ℕ
        next_asks = A.next_asks t step fmus first who g q waits b later prefix asks ends m m_is back asks2 ends2

        abbrev nexts : List Stand
        nexts = A.nexts t step fmus first who g q waits b later prefix asks ends m m_is back asks2 ends2

        nexts_are : stands_by t firsts back ≡ nexts
        nexts_are = A.nexts_are t step fmus first who g q waits b later prefix asks ends m m_is back asks2 ends2

        may_again : MayAskAgain steppers t step b
        may_again = A.may_again t step fmus first who g q waits b later prefix asks ends m m_is back asks2 ends2

        module _ (beyond : are_at m (A.nexts t step fmus first who g q waits b later prefix asks ends m m_is back asks2 ends2) ≡ false) where
          never : ((i j : ℕ) (f g : Fmu) → slice_get fmus i ≡ Some f → slice_get fmus j ≡ Some g → first f.shape ≡ true → first g.shape ≡ true → i ≡ j) → ⊥
          never = A.never t step fmus first who g q waits b later prefix asks ends m m_is back asks2 ends2 beyond

          module _ (all : Each (λ (f : Fmu). first f.shape ≡ true) fmus) where
            later_anew : (c : ℕ) → c ≡ reached t m nexts → t < c
            later_anew = A.c_later t step fmus first who g q waits b later prefix asks ends m m_is back asks2 ends2 beyond all

            -- what is asked then is asked on the way from here
            asked_anew : (c : ℕ) → c ≡ reached t m nexts → (i e : ℕ) → IsAsked steppers comes t step c i e → IsAsked steppers comes t step b i e
            asked_anew c c_is i e asked =
                AskedLater b i e may_first (A.not_bound t step fmus first who g q waits b later prefix asks ends m m_is back asks2 ends2 beyond all) may_again
                (A.others_apart t step fmus first who g q waits b later prefix asks ends m m_is back asks2 ends2 beyond all)
                (subst (λ (n : ℕ). IsAsked steppers comes t step n i e) (A.fallen t step fmus first who g q waits b later prefix asks ends m m_is back asks2 ends2 beyond all c c_is) asked)

            -- what each was asked last
            last_asked : (P : ℕ → ℕ → Type 0) → ((i e : ℕ) → IsAsked steppers comes t step b i e → t < e → P i e) → t < m → (i : ℕ) (f : Fmu) → slice_get fmus i ≡ Some f → P i (next_asks f)
            last_asked P lift above i f at = by (first_points f == m) refl where
              by : (x : Bool) → (first_points f == m) ≡ x → P i (next_asks f)
              by true h =
                  subst (P i) (sym (ap (λ (x : Bool). if not x then m else first_asks f) h ∙ ap (λ (x : Bool). if x then b else q f) (all i f at)))
                  (lift i b (AskedFirst b i b may_first (inl (comes_is i f at ∙ all i f at)) refl) later)
              by false h = subst (P i) (sym (ap (λ (x : Bool). if not x then m else first_asks f) h)) (lift i m (other_asked may_again i f at (unequal (first_points f) m h)) above)

            none_waits : Each (λ (f : Fmu). first f.shape ≡ false → next_points f ≡ t) fmus
            none_waits i f at un = absurd (let h : true ≡ false = sym (all i f at) ∙ un in cc)

  pub asked_so : (P : ℕ → ℕ → Type 0) (b : ℕ) (stands : List Stand) (log : List Sent) (next : Next) → Underway t step first b stands log next → t < b → (g q : Fmu → ℕ) → Each (λ (f : Fmu). first f.shape ≡ false → g f ≡ t) fmus → stands ≡ map (stand_of g q) fmus → AreEnds t fmus log →
      ((i e : ℕ) → IsAsked steppers comes t step b i e → t < e → P i e) → ((i : ℕ) (f : Fmu) → slice_get fmus i ≡ Some f → (g f ≡ t) ⊎ P i (q f)) → unfit step (next.e - t) next.sized next.stands ≡ None → AreAskedSo P next
  asked_so P _ _ _ _ (Begins b stands log next none is) later g q waits from ends lift was fits =
      let own_fits : unfit step (b - t) everyone (map (stand_of g q) fmus) ≡ None = ap (unfit step (b - t) everyone) (sym from) ∙ ap (λ (n : Next). unfit step (n.e - t) n.sized n.stands) (sym is) ∙ fits in
      let may_here : MayAsk steppers t step b = A.may t step fmus (stand_of g q) everyone (λ x. true) b (λ i f at. refl) own_fits in
      subst (AreAskedSo P) (sym is) (λ i f at. record {
        stand = stand_of g q f;
        at = ap (λ (ss : List Stand). slice_get ss i) from ∙ at_map (stand_of g q) fmus i f at;
        may = λ h. lift i b (AskedFirst b i b may_here (inl (comes_is i f at ∙ h)) refl) later;
        was = was i f at;
      })
  asked_so P _ _ _ _ (Others b stands log next asks apart is) later g q waits from ends lift was fits =
      let asks' : Asks t step everyone (comes_first first) b (map (stand_of g q) fmus) log = subst (λ (ss : List Stand). Asks t step everyone (comes_first first) b ss log) from asks in
      let m = reached t b (stands_by t stands log) in
      let to = ap (λ (ss : List Stand). stands_by t ss log) from ∙ firsts_are g q waits b later log asks' ends in
      let m_is = ap (reached t b) to in
      let again = may_next g q waits b later log asks' ends m m_is (ap (unfit step (m - t) (ends_elsewhere t b m)) (sym to) ∙ ap (λ (n : Next). unfit step (n.e - t) n.sized n.stands) (sym is) ∙ fits) in
      let first_of = A.first_points t step fmus first who g q waits b later log asks' ends in
      let ask_of = A.first_asks t step fmus first who g q waits b later log asks' ends in
      subst (AreAskedSo P) (sym is) (λ i f at. record {
        stand = stand_of first_of ask_of f;
        at = ap (λ (ss : List Stand). slice_get ss i) to ∙ at_map (stand_of first_of ask_of) fmus i f at;
        may = λ h. lift i m (other_asked g q waits b later log asks' ends m m_is again i f at (unequal (first_of f) m (unnot (first_of f == m) h))) (A.m_later t step fmus first who g q waits b later log asks' ends m m_is);
        was = stood_so g q waits b later log asks' ends P lift i f at (first f.shape) refl;
      }) where
        stood_so : (g q : Fmu → ℕ) (waits : Each (λ (f : Fmu). first f.shape ≡ false → g f ≡ t) fmus) (b : ℕ) (later : t < b) (log : List Sent) (asks : Asks t step everyone (comes_first first) b (map (stand_of g q) fmus) log) (ends : AreEnds t fmus log) (P : ℕ → ℕ → Type 0) →
            ((i e : ℕ) → IsAsked steppers comes t step b i e → t < e → P i e) → (i : ℕ) (f : Fmu) → slice_get fmus i ≡ Some f → (x : Bool) → first f.shape ≡ x → (first_points g q waits b later log asks ends f ≡ t) ⊎ P i (first_asks g q waits b later log asks ends f)
        stood_so g q waits b later log asks ends P lift i f at true h =
            inr (subst (P i) (sym (ap (λ (x : Bool). if x then b else q f) h)) (lift i b (AskedFirst b i b (may_first g q waits b later log asks ends) (inl (comes_is i f at ∙ h)) refl) later))
        stood_so g q waits b later log asks ends P lift i f at false h = inl (A.waiting_point t step fmus first who g q waits b later log asks ends i f at h)
  asked_so P _ _ _ _ (Anew b stands log next prefix back rest asks apart asks2 beyond more log_is) later g q waits from ends lift was fits =
      let all_ends = subst (AreEnds t fmus) log_is ends in
      let ends' = ends_prefix t fmus prefix (back ++ rest) all_ends in
      let ends_rest = ends_back t fmus prefix (back ++ rest) all_ends in
      let ends2 = ends_prefix t fmus back rest ends_rest in
      let asks' : Asks t step everyone (comes_first first) b (map (stand_of g q) fmus) prefix = subst (λ (ss : List Stand). Asks t step everyone (comes_first first) b ss prefix) from asks in
      let m = reached t b (stands_by t stands prefix) in
      let to = ap (λ (ss : List Stand). stands_by t ss prefix) from ∙ firsts_are g q waits b later prefix asks' ends' in
      let m_is = ap (reached t b) to in
      let asks2' = subst (λ (ss : List Stand). Asks t step (ends_elsewhere t b m) (is_elsewhere m) m ss back) to asks2 in
      let on = ap (λ (ss : List Stand). stands_by t ss back) to ∙ nexts_are g q waits b later prefix asks' ends' m m_is back asks2' ends2 in
      let beyond' = ap (are_at m) (sym on) ∙ beyond in
      let c = reached t m (stands_by t (stands_by t stands prefix) back) in
      either_first first t fmus who (never g q waits b later prefix asks' ends' m m_is back asks2' ends2 beyond') (λ all.
      asked_so P c (stands_by t (stands_by t stands prefix) back) rest next more (later_anew g q waits b later prefix asks' ends' m m_is back asks2' ends2 beyond' all c (ap (reached t m) on))
      (next_points g q waits b later prefix asks' ends' m m_is back asks2' ends2) (next_asks g q waits b later prefix asks' ends' m m_is back asks2' ends2) (none_waits g q waits b later prefix asks' ends' m m_is back asks2' ends2 beyond' all) on (ends_back t fmus back rest ends_rest)
      (λ j x asked above. lift j x (asked_anew g q waits b later prefix asks' ends' m m_is back asks2' ends2 beyond' all c (ap (reached t m) on) j x asked) above)
      (λ i f at. inr (last_asked g q waits b later prefix asks' ends' m m_is back asks2' ends2 beyond' all P lift (A.m_later t step fmus first who g q waits b later prefix asks' ends' m m_is) i f at)) fits)

-- ---- the bad answer

-- what one FMU was asked in a state: on the way to the agreement, to step from its state before the step, or to go back from that of an ask that it was asked
pub data IsAskedIn (r : Run) (ss : List MachineState) (t step b : ℕ) (saves : ℕ → Bool) (i : ℕ) (m : Machine) (s state : MachineState) (call : Call) : Type 0 where
  ToStep : (e : ℕ) → IsAsked (steppers_of r ss t) (is_asked_first r) t step b i e → t < e → state ≡ with_slot (slot_in (saves i) s) s → call ≡ C.DoStep t (e - t) → IsAskedIn r ss t step b saves i m s state call
  ToGoBack : (e : ℕ) → IsAsked (steppers_of r ss t) (is_asked_first r) t step b i e → t < e → saves i ≡ true → state ≡ with_slot (slot_in (saves i) s) (after m s (step_to t e)) → call ≡ C.Restore → IsAskedIn r ss t step b saves i m s state call

-- the first bad answer is that to such a call
pub record IsBadAsk (r : Run) (ss : List MachineState) (t step b : ℕ) (saves : ℕ → Bool) (bad : BadAnswer) (log : List Sent) : Type 0 where
  pub prefix : List Sent
  pub last : Sent
  pub back : List Sent
  pub log_is : log ≡ prefix ++ last ∷ back
  pub first : IsFirst (shapes_of r.system) bad prefix last
  pub within : last.component < length r.system.components
  pub asked : (c : Component) (m : Machine) (s : MachineState) → IsFmu r ss last.component c m s →
      IsAskedIn r ss t step b saves last.component m s (state_by m (with_slot (slot_in (saves last.component) s) s) (part last.component prefix)) last.exchange.call

amid : (prefix : List Sent) (last : Sent) (back : List Sent) → part last.component (prefix ++ last ∷ back) ≡ part last.component prefix ++ last.exchange ∷ part last.component back
amid prefix last back = part_append last.component prefix (last ∷ back) ∙ ap (λ (es : List Exchange). part last.component prefix ++ es) (takes (last.component == last.component) last.exchange (part last.component back) (same last.component last.component refl))

module _ (r : Run) (ss : List MachineState) (t step b : ℕ) (saves : ℕ → Bool) (bad : BadAnswer) (log : List Sent) (ignore : IgnoreSlots r) (later : t < b) (agrees : Agrees t step (asked_first (early_count (shapes_of r.system))) b (standing t (fmus_of r ss t)) log (Fails bad))
    (restores : RestoresSaved saves log) (replies : AreReplies r (saved_states r ss saves) log) (shapes_are : shapes_in (standing t (fmus_of r ss t)) ≡ shapes_of r.system) where
  abbrev first : Shape → Bool
  first = asked_first (early_count (shapes_of r.system))

  abbrev fmus : List Fmu
  fmus = fmus_of r ss t

  abbrev begin : List Stand
  begin = standing t (fmus_of r ss t)

  abbrev fmu_of : ℕ → Component → Machine → MachineState → Fmu
  fmu_of i c m s = record { shape = c.shape; end = ending t c m s }

  abbrev home : Fmu → Stand
  home f = record { shape = f.shape; point = t; ask = t }

  abbrev save_of : ℕ → MachineState → MachineState
  save_of i s = with_slot (slot_in (saves i) s) s

  steppers_are : map stepper_of fmus ≡ steppers_of r ss t
  steppers_are = from 0 r.system.components r.machines ss where
    from : (k : ℕ) (cs : List Component) (ms : List Machine) (zs : List MachineState) → map stepper_of (each_from fmu_of k cs ms zs) ≡ each_from (λ i c m s. stepper_of (fmu_of i c m s)) k cs ms zs
    from k [] ms zs = refl
    from k (c ∷ cs) [] zs = refl
    from k (c ∷ cs) (m ∷ ms) [] = refl
    from k (c ∷ cs) (m ∷ ms) (s ∷ zs) = ap (λ (xs : List Stepper). stepper_of (fmu_of k c m s) ∷ xs) (from (suc k) cs ms zs)

  low : Each (NotBefore t) begin
  low = from fmus where
    from : (fs : List Fmu) → Each (NotBefore t) (standing t fs)
    from [] i y at = absurd (none_some y at)
    from (f ∷ fs) zero y at = subst (NotBefore t) (same_Some (home f) y at) (omega arith)
    from (f ∷ fs) (suc i) y at = from fs i y at

  comes_is : (i : ℕ) (f : Fmu) → slice_get fmus i ≡ Some f → is_asked_first r i ≡ first f.shape
  comes_is i f at =
      let x = each-get fmu_of 0 i r.system.components r.machines ss f at in
      ap (λ (o : Option Component). option_map_or (λ (c : Component). first c.shape) o false) x.of_c ∙ ap (λ (g : Fmu). first g.shape) (sym x.is)

  -- it may be asked for an end
  abbrev May : ℕ → ℕ → Type 0
  May i e = IsAsked (steppers_of r ss t) (is_asked_first r) t step b i e × (t < e)

  module _ (prefix more : List Sent) (next : Next) (log_is : log ≡ prefix ++ more) (under : Underway t step (asked_first (early_count (shapes_of r.system))) b (standing t (fmus_of r ss t)) prefix next) where
    u : IsUnder t step first (standing t (fmus_of r ss t)) prefix next
    u = is_under t step first b begin prefix next later low under

    module _ (i : ℕ) (c : Component) (m : Machine) (s : MachineState) (fmu : IsFmu r ss i c m s) where
      own_number : 0 + i ≡ i
      own_number = omega arith

      fmu_here : slice_get (fmus_of r ss t) i ≡ Some (fmu_of i c m s)
      fmu_here = each_here fmu_of 0 i r.system.components r.machines ss c m s fmu.component fmu.machine fmu.state ∙ ap (λ (n : ℕ). Some (fmu_of n c m s)) own_number

      stood : slice_get (standing t (fmus_of r ss t)) i ≡ Some (home (fmu_of i c m s))
      stood = at_map home fmus i (fmu_of i c m s) fmu_here

      saved_fmu : IsFmu r (saved_states r ss saves) i c m (save_of i s)
      saved_fmu = record {
        component = fmu.component;
        machine = fmu.machine;
        state = each_here (λ j d n z. save_of j z) 0 i r.system.components r.machines ss c m s fmu.component fmu.machine fmu.state ∙ ap (λ (n : ℕ). Some (save_of n s)) own_number;
      }

      own_replies : RepliesBy m (save_of i s) (part i prefix ++ part i more)
      own_replies = subst (RepliesBy m (save_of i s)) (ap (part i) log_is ∙ part_append i prefix more) (replies i c m (save_of i s) saved_fmu)

      own_restores : All (IsSavedOne saves i) (part i prefix ++ part i more)
      own_restores = subst (All (IsSavedOne saves i)) (ap (part i) log_is ∙ part_append i prefix more) (restores i)

      leads : Leads m (ignore i m fmu.machine) s (slot_in (saves i) s) t (fmu_of i c m s) (known_end t c m s) step i first (home (fmu_of i c m s)) (save_of i s) false (part i prefix)
      leads = track m (ignore i m fmu.machine) s (slot_in (saves i) s) t (fmu_of i c m s) (known_end t c m s) step i first b begin prefix next under later low (home (fmu_of i c m s)) stood refl (save_of i s) false (T.Home refl refl)
          (λ k d w h. ap (λ (x : Bool). slot_in x s) (all_prefix (IsSavedOne saves i) (part i prefix) (part i more) own_restores k d w h))
          (replies_prefix m (save_of i s) (part i prefix) (part i more) own_replies)

      -- where it stands
      stands_there : slice_get next.stands i ≡ Some (stand_by t (home (fmu_of i c m s)) (part i prefix))
      stands_there = ap (λ (xs : List Stand). slice_get xs i) u.stands_are ∙ stand_here t begin prefix i (home (fmu_of i c m s)) stood

    ends : AreEnds t fmus prefix
    ends i f at =
        let x = each-get fmu_of 0 i r.system.components r.machines ss f at in
        subst (λ (g : Fmu). EndsAs t g (part i prefix)) (sym x.is) (leads i x.component x.machine x.state (record { component = x.of_c; machine = x.of_m; state = x.of_s })).ends

    module _ (fits : unfit step (next.e - t) next.sized next.stands ≡ None) where
      asked : (i : ℕ) (f : Fmu) → slice_get fmus i ≡ Some f → IsAskedSo t step fmus first (who_first r ss t) (is_asked_first r) comes_is May next i f
      asked = asked_so t step fmus first (who_first r ss t) (is_asked_first r) comes_is May b begin prefix next under later (λ f. t) (λ f. t) (λ i f at un. refl) refl ends (λ i e h above. (subst (λ (xs : List Stepper). IsAsked xs (is_asked_first r) t step b i e) steppers_are h, above)) (λ i f at. inl refl) fits

      module _ (i : ℕ) (c : Component) (m : Machine) (s : MachineState) (fmu : IsFmu r ss i c m s) (x : Stand) (at : slice_get next.stands i ≡ Some x) where
        mine : IsAskedSo t step fmus first (who_first r ss t) (is_asked_first r) comes_is May next i (fmu_of i c m s)
        mine = asked i (fmu_of i c m s) (fmu_here i c m s fmu)

        stand_is : mine.stand ≡ x
        stand_is = same_Some mine.stand x (sym mine.at ∙ at)

        may_step : next.test x ≡ true → May i next.e
        may_step h = mine.may (ap next.test stand_is ∙ h)

        was_asked : x.point ≢ t → May i x.ask
        was_asked away = by mine.was where
          by : (mine.stand.point ≡ t) ⊎ May i mine.stand.ask → May i x.ask
          by (inl h) = absurd (away (ap (λ (y : Stand). y.point) (sym stand_is) ∙ h))
          by (inr h) = subst (λ (y : Stand). May i y.ask) stand_is h

        here : Here m (ignore i m fmu.machine) s (slot_in (saves i) s) t (fmu_of i c m s) (known_end t c m s) step i first x (state_by m (save_of i s) (part i prefix)) (asks_last false (part i prefix))
        here = subst (λ (y : Stand). Here m (ignore i m fmu.machine) s (slot_in (saves i) s) t (fmu_of i c m s) (known_end t c m s) step i first y (state_by m (save_of i s) (part i prefix)) (asks_last false (part i prefix)))
            (same_Some (stand_by t (home (fmu_of i c m s)) (part i prefix)) x (sym (stands_there i c m s fmu) ∙ at)) (leads i c m s fmu).here

        -- away it is in the state of what it was asked last
        away_state : x.point ≢ t → state_by m (save_of i s) (part i prefix) ≡ with_slot (slot_in (saves i) s) (after m s (step_to t x.ask))
        away_state away = by here where
          by : Here m (ignore i m fmu.machine) s (slot_in (saves i) s) t (fmu_of i c m s) (known_end t c m s) step i first x (state_by m (save_of i s) (part i prefix)) (asks_last false (part i prefix)) → state_by m (save_of i s) (part i prefix) ≡ with_slot (slot_in (saves i) s) (after m s (step_to t x.ask))
          by (T.Home h is) = absurd (away h)
          by (T.Away h is asks) = is

        home_state : x.point ≡ t → state_by m (save_of i s) (part i prefix) ≡ save_of i s
        home_state h = by here where
          by : Here m (ignore i m fmu.machine) s (slot_in (saves i) s) t (fmu_of i c m s) (known_end t c m s) step i first x (state_by m (save_of i s) (part i prefix)) (asks_last false (part i prefix)) → state_by m (save_of i s) (part i prefix) ≡ save_of i s
          by (T.Home h is) = is
          by (T.Away away is asks) = absurd (away h)

      -- put back, it is in its state before the step
      module _ (backs steps : List Sent) (more_is : more ≡ backs ++ steps) (back : IsAnswered (shapes_in next.stands) (putting_back t next.test next.stands) backs) where
        module _ (i : ℕ) (c : Component) (m : Machine) (s : MachineState) (fmu : IsFmu r ss i c m s) (x : Stand) (at : slice_get next.stands i ≡ Some x) (test : next.test x ≡ true) where
          back_restores : All (IsSavedOne saves i) (part i backs)
          back_restores = all_prefix (IsSavedOne saves i) (part i backs) (part i steps)
              (subst (All (IsSavedOne saves i)) (ap (part i) more_is ∙ part_append i backs steps) (all_back (IsSavedOne saves i) (part i prefix) (part i more) (own_restores i c m s fmu)))

          is_home : state_by m (state_by m (save_of i s) (part i prefix)) (part i backs) ≡ save_of i s
          is_home = by (x.point == t) refl (part_of (is_away t next.test) C.Restore (shapes_in next.stands) next.stands backs back i x at) where
            number : (p q : ℕ) → (p == q) ≡ true → p ≡ q
            number p q h = grind (arith, nat_tests)

            tested : (y : Bool) → (x.point == t) ≡ y → is_away t next.test x ≡ not y
            tested y h = ap₂ (λ (v w : Bool). v && not w) test h

            by : (y : Bool) → (x.point == t) ≡ y → OneIf (shapes_in next.stands) i C.Restore (is_away t next.test x) (part i backs) → state_by m (state_by m (save_of i s) (part i prefix)) (part i backs) ≡ save_of i s
            by true h one =
                ap (state_by m (state_by m (save_of i s) (part i prefix))) (subst (λ (v : Bool). OneIf (shapes_in next.stands) i C.Restore v (part i backs)) (tested true h) one) ∙ home_state i c m s fmu x at (number x.point t h)
            by false h one = put (subst (λ (v : Bool). OneIf (shapes_in next.stands) i C.Restore v (part i backs)) (tested false h) one) where
              put : OneIf (shapes_in next.stands) i C.Restore true (part i backs) → state_by m (state_by m (save_of i s) (part i prefix)) (part i backs) ≡ save_of i s
              put e =
                  let full : saves i ≡ true = All-head (IsSavedOne saves i) e.exchange [] (subst (All (IsSavedOne saves i)) e.is back_restores) e.call_is in
                  let gone = away_state i c m s fmu x at (unequal x.point t h) in
                  ap (state_by m (state_by m (save_of i s) (part i prefix))) e.is ∙ ap (after m (state_by m (save_of i s) (part i prefix))) e.call_is
                  ∙ T.restored m (ignore i m fmu.machine) s (slot_in (saves i) s) t (fmu_of i c m s) (known_end t c m s) (ap (λ (v : Bool). slot_in v s) full) (state_by m (save_of i s) (part i prefix)) (ap (λ (z : MachineState). z.slot) gone)

  same_bad : (x y : BadAnswer) → Fails x ≡ Fails y → x ≡ y
  same_bad x y h = cc

  begin_shapes : (stands : List Stand) → shapes_in stands ≡ shapes_in begin → shapes_in stands ≡ shapes_of r.system
  begin_shapes stands h = h ∙ shapes_are

  inside : (stands : List Stand) → shapes_in stands ≡ shapes_in begin → (k place : ℕ) (x : Stand) → k ≡ 0 + place → slice_get stands place ≡ Some x → k < length r.system.components
  inside stands h k place x at is =
      let len = length-map r.system.components (λ (c : Component). c.shape) in
      let w = slice_get_within (shapes_of r.system) place x.shape (ap (λ (zs : List Shape). slice_get zs place) (sym (begin_shapes stands h)) ∙ slice_get-map (λ (y : Stand). y.shape) stands place ∙ ap (option_map (λ (y : Stand). y.shape)) is) in
      omega (arith, at, len, w)

  own_place : (stands : List Stand) (k place : ℕ) (x : Stand) → k ≡ 0 + place → slice_get stands place ≡ Some x → slice_get stands k ≡ Some x
  own_place stands k place x at is = let same : k ≡ place = omega (arith, at) in ap (slice_get stands) same ∙ is

  pub bad_ask : IsBadAsk r ss t step b saves bad log
  bad_ask = by (lasts t step first b begin log (Fails bad) agrees) where
    stops_so : (l : Lasts t step first b begin log (Fails bad)) → Stops t step l.next.sized l.next.test l.next.e l.next.stands l.more (Fails bad) → IsBadAsk r ss t step b saves bad log
    stops_so l (IsUnfit i size none is) = absurd (cc)
    stops_so l (InBack other fits f is) =
        let n = l.next in
        let under = u l.prefix l.more n l.log_is l.under in
        let first : IsFirst (shapes_of r.system) bad f.prefix f.last = subst (λ (x : BadAnswer). IsFirst (shapes_of r.system) x f.prefix f.last) (sym (same_bad bad other is)) (subst (λ (zs : List Shape). IsFirst zs other f.prefix f.last) (under.shapes ∙ shapes_are) f.first) in
        let calls : putting_back t n.test n.stands ≡ component_calls (f.prefix ++ f.last ∷ f.back) ++ [] = sym f.calls_are ∙ ap component_calls f.log_is ∙ sym (append-nil (component_calls (f.prefix ++ f.last ∷ f.back))) in
        let own = turn (is_away t n.test) (λ (x : Stand). C.Restore) f.last f.back [] 0 n.stands f.prefix calls in
        let at = own_place n.stands f.last.component own.to.place own.to.one own.to.at own.to.is in
        let whole : log ≡ (l.prefix ++ f.prefix) ++ f.last ∷ f.back = l.log_is ∙ ap (λ (x : List Sent). l.prefix ++ x) f.log_is ∙ sym (append_assoc l.prefix f.prefix (f.last ∷ f.back)) in
        record {
          prefix = l.prefix ++ f.prefix;
          last = f.last;
          back = f.back;
          log_is = whole;
          first = record { good = All-append (IsGoodOf (shapes_of r.system)) l.prefix f.prefix (subst (λ (zs : List Shape). All (IsGoodOf zs) l.prefix) shapes_are under.good) first.good; component = first.component; why = first.why };
          within = inside n.stands under.shapes f.last.component own.to.place own.to.one own.to.at own.to.is;
          asked = λ c m s fmu.
              let i = f.last.component in
              let x = own.to.one in
              let away = is_gone n.test x own.to.asked in
              let last = was_asked l.prefix l.more n l.log_is l.under fits i c m s fmu x at away in
              let here : part i (l.prefix ++ f.prefix) ≡ part i l.prefix = part_append i l.prefix f.prefix ∙ ap (λ (es : List Exchange). part i l.prefix ++ es) own.none ∙ append-nil (part i l.prefix) in
              let full : saves i ≡ true = All-head (IsSavedOne saves i) f.last.exchange (part i f.back) (all_back (IsSavedOne saves i) (part i (l.prefix ++ f.prefix)) (f.last.exchange ∷ part i f.back)
              (subst (All (IsSavedOne saves i)) (ap (part i) whole ∙ amid (l.prefix ++ f.prefix) f.last f.back) (restores i))) own.to.call_is in
              ToGoBack x.ask last.0 last.1 full (ap (state_by m (save_of i s)) here ∙ away_state l.prefix l.more n l.log_is l.under fits i c m s fmu x at away) own.to.call_is;
        } where
          is_gone : (test : Stand → Bool) (x : Stand) → is_away t test x ≡ true → x.point ≢ t
          is_gone test x h = go (test x) (x.point == t) refl h where
            go : (v w : Bool) → (x.point == t) ≡ w → (v && not w) ≡ true → x.point ≢ t
            go true false e k = unequal x.point t e
            go true true e k = absurd (cc)
            go false w e k = absurd (cc)
    stops_so l (InStep other backs steps fits back f steps_is is) =
        let n = l.next in
        let under = u l.prefix l.more n l.log_is l.under in
        let first : IsFirst (shapes_of r.system) bad f.prefix f.last = subst (λ (x : BadAnswer). IsFirst (shapes_of r.system) x f.prefix f.last) (sym (same_bad bad other is)) (subst (λ (zs : List Shape). IsFirst zs other f.prefix f.last) (under.shapes ∙ shapes_are) f.first) in
        let calls : stepping t n.e n.test n.stands ≡ component_calls (f.prefix ++ f.last ∷ f.back) ++ [] = sym f.calls_are ∙ ap component_calls f.log_is ∙ sym (append-nil (component_calls (f.prefix ++ f.last ∷ f.back))) in
        let own = turn n.test (λ (x : Stand). C.DoStep t (n.e - t)) f.last f.back [] 0 n.stands f.prefix calls in
        let at = own_place n.stands f.last.component own.to.place own.to.one own.to.at own.to.is in
        record {
          prefix = l.prefix ++ (backs ++ f.prefix);
          last = f.last;
          back = f.back;
          log_is = l.log_is ∙ ap (λ (x : List Sent). l.prefix ++ x) (steps_is ∙ ap (λ (x : List Sent). backs ++ x) f.log_is ∙ sym (append_assoc backs f.prefix (f.last ∷ f.back))) ∙ sym (append_assoc l.prefix (backs ++ f.prefix) (f.last ∷ f.back));
          first = record {
            good = All-append (IsGoodOf (shapes_of r.system)) l.prefix (backs ++ f.prefix) (subst (λ (zs : List Shape). All (IsGoodOf zs) l.prefix) shapes_are under.good)
                (All-append (IsGoodOf (shapes_of r.system)) backs f.prefix (subst (λ (zs : List Shape). All (IsGoodOf zs) backs) (under.shapes ∙ shapes_are) back.good) first.good);
            component = first.component;
            why = first.why;
          };
          within = inside n.stands under.shapes f.last.component own.to.place own.to.one own.to.at own.to.is;
          asked = λ c m s fmu.
              let i = f.last.component in
              let x = own.to.one in
              let may = may_step l.prefix l.more n l.log_is l.under fits i c m s fmu x at own.to.asked in
              let here : part i (l.prefix ++ (backs ++ f.prefix)) ≡ part i l.prefix ++ part i backs =
              part_append i l.prefix (backs ++ f.prefix) ∙ ap (λ (es : List Exchange). part i l.prefix ++ es) (part_append i backs f.prefix ∙ ap (λ (es : List Exchange). part i backs ++ es) own.none ∙ append-nil (part i backs)) in
              ToStep n.e may.0 may.1
              (ap (state_by m (save_of i s)) here ∙ state_by_append m (save_of i s) (part i l.prefix) (part i backs) ∙ is_home l.prefix l.more n l.log_is l.under fits backs steps steps_is back i c m s fmu x at own.to.asked) own.to.call_is;
        }

    by : Lasts t step first b begin log (Fails bad) → IsBadAsk r ss t step b saves bad log
    by l = close l.closes where
      close : Closes t step first l.next l.more (Fails bad) → IsBadAsk r ss t step b saves bad log
      close (Met p asks is) = absurd (cc)
      close (Stopped h) = stops_so l h
