-- A checkpoint as a whole.
use Rattle.std.proofs.Common.{◌≡◌, ℕ, ◌+◌, ◌<◌, ◌^◌, List, [], ◌++◌, length, take, drop, refl, sym, ap, subst, ◌∙◌, append_assoc, arith}
use Rattle.std.specs.Prelude.{Option, true, false, ◌==◌, if◌then◌else◌, Ok, Err}
use Rattle.std.proofs.lemmas.Bool.{eqb-false, eqb-true}
use Rattle.std.proofs.lemmas.List.{append-nil, length-append, length-drop, length-take, take-append-drop, take-take, take_all}
use Rattle.system_model.specs.declared.system.System.{System}
use Rattle.exact_parts.specs.declared.taken.Taken.{Taken}
use Rattle.exact_parts.specs.declared.taken.Taken.TheVariants.{Got, NeedMore, Bad}
use Rattle.exact_parts.specs.Taking.{AreSingle, Begins, Breaks, Gets, IsPrefix, Takes}
use Rattle.exact_parts.specs.Each.{Each}
use Rattle.exact_parts.proofs.CallerLemmas.{HasSome, LeadsTo, after_single, begins, begins_cut, each_single, each_some, kept_single, led_some, not_within_all}
use Rattle.system_checkpoint.specs.declared.first.First.{First}
use Rattle.system_checkpoint.specs.declared.snapshot.Arming.{Arming}
use Rattle.system_checkpoint.specs.declared.snapshot.CheckpointFault.TheVariants as F
use Rattle.system_checkpoint.specs.declared.snapshot.ClockTimes.{ClockTimes}
use Rattle.system_checkpoint.specs.declared.snapshot.Snapshot.{Snapshot}
use Rattle.system_checkpoint.specs.Parts.{Known}
use Rattle.system_checkpoint.specs.First.{IsFirst}
use Rattle.system_checkpoint.specs.Whole.{AllTimesOf, Answers, ArmingOf, ArmingsOf, Checkpoint, EventOf, EventsOf, HeaderOf, IsBad, StateOf, StatesOf, TimesOf, WordOf, WordsOf, begun, told, with_events}
use Rattle.system_checkpoint.proofs.PartLemmas.{known_single, known_some, made_some}
use Rattle.system_checkpoint.proofs.ListLemmas.{IsBefore, arming_of_single, arming_of_some, event_of_single, event_of_some, state_of_single, state_of_some, times_of_single, times_of_some, word_of_single, word_of_some}
use Rattle.system_checkpoint.proofs.FirstLemmas.{first_before, first_single}

-- ---- what comes after each list, by what is held so far

abbrev pub after_states : System → Snapshot → List (List ℕ) → Snapshot → List ℕ → Type 0
after_states system held states = WordsOf system (record held { states = states })

abbrev pub after_words : System → Snapshot → List (Option ℕ) → Snapshot → List ℕ → Type 0
after_words system held words = AllTimesOf system (record held { words = words })

abbrev pub after_times : System → Snapshot → List (Option ClockTimes) → Snapshot → List ℕ → Type 0
after_times system held times = ArmingsOf system (record held { times = times })

abbrev pub after_armings : System → Snapshot → List Arming → Snapshot → List ℕ → Type 0
after_armings system held armings = EventsOf system (record held { armings = armings })

abbrev pub after_header : System → Snapshot → Unit {0} → Snapshot → List ℕ → Type 0
after_header system held nothing = StatesOf system held

abbrev pub after_first : System → List ℕ → First → Snapshot → List ℕ → Type 0
after_first system header first = HeaderOf system header (begun first)

-- ---- one value

events_single : (system : System) (held : Snapshot) → AreSingle (EventsOf system held)
events_single system held = kept_single (Each (EventOf held) system.components) (with_events held) (each_single (EventOf held) (event_of_single held) system.components [])

armings_single : (system : System) (held : Snapshot) → AreSingle (ArmingsOf system held)
armings_single system held = after_single (Each (ArmingOf held) system.ports) (after_armings system held) (each_single (ArmingOf held) (arming_of_single held) system.ports []) (λ armings. events_single system (record held { armings = armings }))

times_single : (system : System) (held : Snapshot) → AreSingle (AllTimesOf system held)
times_single system held = after_single (Each TimesOf system.ports) (after_times system held) (each_single TimesOf times_of_single system.ports []) (λ times. armings_single system (record held { times = times }))

words_single : (system : System) (held : Snapshot) → AreSingle (WordsOf system held)
words_single system held = after_single (Each WordOf system.ports) (after_words system held) (each_single WordOf word_of_single system.ports []) (λ words. times_single system (record held { words = words }))

states_single : (system : System) (held : Snapshot) → AreSingle (StatesOf system held)
states_single system held = after_single (Each StateOf system.components) (after_states system held) (each_single StateOf state_of_single system.components []) (λ states. words_single system (record held { states = states }))

header_single : (system : System) (header : List ℕ) (held : Snapshot) → AreSingle (HeaderOf system header held)
header_single system header held = after_single (Known header) (after_header system held) (known_single header) (λ nothing. states_single system held)

pub checkpoint_single : (system : System) (header : List ℕ) → AreSingle (Checkpoint system header)
checkpoint_single system header = after_single IsFirst (after_first system header) first_single (λ first. header_single system header (begun first))

-- ---- each can stand

events_some : (system : System) (held : Snapshot) → IsBefore held.point held.plan.stop → HasSome (EventsOf system held)
events_some system held h = made_some (Each (EventOf held) system.components) (with_events held) (each_some (EventOf held) (event_of_some held h) system.components [])

pub armings_leads : (system : System) (held : Snapshot) → IsBefore held.point held.plan.stop → LeadsTo (Each (ArmingOf held) system.ports) (after_armings system held)
armings_leads system held h = λ armings bytes f. events_some system (record held { armings = armings }) h

armings_some : (system : System) (held : Snapshot) → IsBefore held.point held.plan.stop → HasSome (ArmingsOf system held)
armings_some system held h = led_some (Each (ArmingOf held) system.ports) (after_armings system held) (each_some (ArmingOf held) (arming_of_some held h) system.ports []) (armings_leads system held h)

pub times_leads : (system : System) (held : Snapshot) → IsBefore held.point held.plan.stop → LeadsTo (Each TimesOf system.ports) (after_times system held)
times_leads system held h = λ times bytes f. armings_some system (record held { times = times }) h

times_some : (system : System) (held : Snapshot) → IsBefore held.point held.plan.stop → HasSome (AllTimesOf system held)
times_some system held h = led_some (Each TimesOf system.ports) (after_times system held) (each_some TimesOf times_of_some system.ports []) (times_leads system held h)

pub words_leads : (system : System) (held : Snapshot) → IsBefore held.point held.plan.stop → LeadsTo (Each WordOf system.ports) (after_words system held)
words_leads system held h = λ words bytes f. times_some system (record held { words = words }) h

words_some : (system : System) (held : Snapshot) → IsBefore held.point held.plan.stop → HasSome (WordsOf system held)
words_some system held h = led_some (Each WordOf system.ports) (after_words system held) (each_some WordOf word_of_some system.ports []) (words_leads system held h)

pub states_leads : (system : System) (held : Snapshot) → IsBefore held.point held.plan.stop → LeadsTo (Each StateOf system.components) (after_states system held)
states_leads system held h = λ states bytes f. words_some system (record held { states = states }) h

states_some : (system : System) (held : Snapshot) → IsBefore held.point held.plan.stop → HasSome (StatesOf system held)
states_some system held h = led_some (Each StateOf system.components) (after_states system held) (each_some StateOf state_of_some system.components []) (states_leads system held h)

pub header_leads : (system : System) (header : List ℕ) (held : Snapshot) → IsBefore held.point held.plan.stop → LeadsTo (Known header) (after_header system held)
header_leads system header held h = λ nothing bytes f. states_some system held h

pub first_leads : (system : System) (header : List ℕ) → length header < 2 ^ 32 → LeadsTo IsFirst (after_first system header)
first_leads system header short = λ first bytes f.
    let before = first_before first bytes f in
    led_some (Known header) (after_header system (begun first)) (known_some header short) (header_leads system header (begun first) before)

-- ---- the whole of the bytes

module _ (system : System) (header bytes : List ℕ) where
  abbrev whole : Snapshot → List ℕ → Type 0
  whole = Checkpoint system header

  single : AreSingle whole
  single = checkpoint_single system header

  is_whole : (v : Snapshot) (n : ℕ) → n ≡ length bytes → Gets whole bytes v n → whole v bytes
  is_whole v n e got = subst (λ xs. whole v xs) (take_all n bytes (omega (arith, e))) got.spelled

  is_longer : (v : Snapshot) (n : ℕ) → (n ≡ length bytes → ⊥) → Gets whole bytes v n → IsBad system header bytes n
  is_longer v n other got = record {
    within = got.within;
    prefix = record { value = v; more = []; spelled = subst (whole v) (sym (append-nil (take n bytes))) got.spelled };
    next = λ lt b.
        let more = drop n (take (n + 1) bytes) ++ b.more in
        let prefix : take n (take (n + 1) bytes) ≡ take n bytes = take-take n (n + 1) bytes (omega arith) in
        let is : take (n + 1) bytes ++ b.more ≡ take n bytes ++ more = ap (λ xs. xs ++ b.more) (sym (take-append-drop n (take (n + 1) bytes)) ∙ ap (λ xs. xs ++ drop n (take (n + 1) bytes)) prefix) ∙ append_assoc (take n bytes) (drop n (take (n + 1) bytes)) b.more in
        let s = single v b.value (take n bytes) more got.spelled (subst (whole b.value) is b.spelled) in
        omega (arith, s.1, length-append (drop n (take (n + 1) bytes)) b.more, length-drop n (take (n + 1) bytes), length-take (n + 1) bytes, lt);
    none = λ k all.
        let s = single v k (take n bytes) (drop n bytes) got.spelled (subst (whole k) (sym (take-append-drop n bytes)) all) in
        other (omega (arith, s.1, length-drop n bytes, got.within));
  }

  is_short : IsPrefix whole bytes → IsBad system header bytes (length bytes)
  is_short prefix = record {
    within = omega arith;
    prefix = subst (Begins whole) (sym (take_all (length bytes) bytes (omega arith))) (begins whole bytes prefix);
    next = λ lt. absurd (omega (arith, lt));
    none = λ k all. not_within_all whole single (length bytes) bytes k (subst (whole k) (sym (take_all (length bytes) bytes (omega arith))) all) prefix;
  }

  is_bad : (at : ℕ) → Breaks whole bytes at → IsBad system header bytes at
  is_bad at h = record {
    within = omega (arith, h.within);
    prefix = begins whole (take at bytes) h.prefix;
    next = λ lt. h.none;
    none = λ k all. h.none (begins_cut whole (at + 1) bytes (record { value = k; more = []; spelled = subst (whole k) (sym (append-nil bytes)) all }));
  }

  -- the answer by what was taken
  pub answer_of : (t : Taken Snapshot) → Takes whole bytes t → Answers system header bytes (told t (length bytes))
  answer_of (Got v n) h = (elim (n == length bytes) as (λ b. n == length bytes ≡ b → Answers system header bytes (if b then Ok v else Err (F.Bad n))) [
    | true ↦ λ e. is_whole v n (eqb-true n (length bytes) e) h
    | false ↦ λ e. is_longer v n (eqb-false n (length bytes) e) h
  ]) refl
  answer_of NeedMore h = is_short h
  answer_of (Bad at) h = is_bad at h
