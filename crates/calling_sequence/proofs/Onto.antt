-- From one place of a run to the next, and to its end.
use Rattle.std.proofs.Common.{◌≡◌, ℕ, ℤ, ◌+◌, true, false, List, [], ◌∷◌, ◌++◌, Option, refl, sym, ap, ◌∙◌, subst, append-nil}
use Rattle.std.proofs.lemmas.List.{map-append, length-append}
use Rattle.std.proofs.lemmas.List.Elements.{All-nil}
use Rattle.sim_base.specs.Sink.{SinkView, with_piece}
use Rattle.fmu_peer.specs.CloseAll.{Instance}
use Rattle.system_model.specs.declared.plan.Plan.{Plan}
use Rattle.system_model.specs.declared.system.System.{System}
use Rattle.system_model.specs.Text.{Instant}
use Rattle.slot_calls.specs.declared.bad_answer.BadAnswer.{BadAnswer}
use Rattle.slot_calls.specs.Log.{Sent, Told}
use Rattle.slot_calls.specs.Stage.{IsGoodOf, shapes_of}
use Rattle.slot_calls.proofs.CallerLemmas.{told_none, told_on}
use Rattle.calling_sequence.specs.declared.experiment.Experiment.{Experiment}
use Rattle.calling_sequence.specs.declared.run_end.RunEnd.{RunEnd}
use Rattle.calling_sequence.specs.declared.run_end.RunEnd.TheVariants as E
use Rattle.calling_sequence.specs.Course.{CourseIn, Extent, FromHeld, IsWithin, LeadsTo, On, Place, UpToHeld, Whole, part_at, shown}
use Rattle.calling_sequence.specs.Ends.{Badly, EndsAt, FinishesIn, MayEnd, RunsIn, Shown, Well, counted_in, header_of, pieces_in, point_of, puts_instants, text_of}
use Rattle.calling_sequence.specs.Here.{Follows, Here, Past}
use Rattle.calling_sequence.specs.Parts.{Calls, Does, Falls, Part}
use Rattle.calling_sequence.specs.Puts.{PutsPrefixOf, with_pieces}

pub pieces_append : (view : SinkView) (xs ys : List (List ℕ)) → with_pieces view (xs ++ ys) ≡ with_pieces (with_pieces view xs) ys
pieces_append view [] ys = refl
pieces_append view (x ∷ xs) ys = pieces_append (with_piece view x) xs ys

-- an instant more, where they are put
pieces_grow : (system : System) (plan : Plan) (extent : Extent) → puts_instants extent ≡ true → (is : List Instant) (i : Instant) → pieces_in system plan extent (is ++ i ∷ []) ≡ pieces_in system plan extent is ++ text_of i ∷ []
pieces_grow system plan Whole puts is i = ap (λ (ps : List (List ℕ)). header_of system plan ∷ ps) (map-append text_of is (i ∷ []))
pieces_grow system plan (UpToHeld at) puts is i = absurd (cc)
pieces_grow system plan (FromHeld s) puts is i = map-append text_of is (i ∷ [])

pieces_more : (system : System) (plan : Plan) (extent : Extent) → puts_instants extent ≡ true → (view : SinkView) (is : List Instant) (i : Instant) → with_piece (with_pieces view (pieces_in system plan extent is)) (text_of i) ≡ with_pieces view (pieces_in system plan extent (is ++ i ∷ []))
pieces_more system plan extent puts view is i =
    sym (pieces_append view (pieces_in system plan extent is) (text_of i ∷ [])) ∙ ap (λ (ps : List (List ℕ)). with_pieces view ps) (sym (pieces_grow system plan extent puts is i))

counted_more : (extent : Extent) → puts_instants extent ≡ true → (is : List Instant) (i : Instant) → counted_in extent is + 1 ≡ counted_in extent (is ++ i ∷ [])
counted_more Whole puts is i = sym (length-append is (i ∷ []))
counted_more (UpToHeld at) puts is i = absurd (cc)
counted_more (FromHeld s) puts is i = sym (length-append is (i ∷ []))

-- where they aren't
pieces_stay : (system : System) (plan : Plan) (extent : Extent) → puts_instants extent ≡ false → (is js : List Instant) → pieces_in system plan extent is ≡ pieces_in system plan extent js
pieces_stay system plan Whole puts is js = absurd (cc)
pieces_stay system plan (UpToHeld at) puts is js = refl
pieces_stay system plan (FromHeld s) puts is js = absurd (cc)

counted_stay : (extent : Extent) → puts_instants extent ≡ false → (is js : List Instant) → counted_in extent is ≡ counted_in extent js
counted_stay Whole puts is js = absurd (cc)
counted_stay (UpToHeld at) puts is js = refl
counted_stay (FromHeld s) puts is js = absurd (cc)

module _ (e : Experiment) (olds : List Instance) (past : Past) (p : Place) (mids news : List Instance) (present : SinkView) (count : ℕ) (h : Here e olds past p mids present count) (more : List Sent) (told : Told more mids news) where
  module _ (q : Place) (values : List (Option ℤ)) (does : Does e.system (part_at e.system e.bound e.plan p) values more) (leads : LeadsTo e.system e.plan p values more q) (within : IsWithin past.extent q) where
    -- a part after which no instant stands
    pub on_quietly : shown q ≡ [] → Here e olds past q news present count
    on_quietly none =
        let same : h.is ++ shown q ≡ h.is = ap (λ (l : List Instant). h.is ++ l) none ∙ append-nil h.is in
        record {
          log = h.log ++ more;
          is = h.is ++ shown q;
          told = told_on olds mids news h.log more h.told told;
          course = On p q values h.log more h.is h.course does leads within;
          put = h.put ∙ ap (λ (l : List Instant). with_pieces past.sink (pieces_in e.system e.plan past.extent l)) (sym same);
          counted = h.counted ∙ ap (λ (l : List Instant). counted_in past.extent l) (sym same);
        }

    module _ (i : Instant) (one : shown q ≡ i ∷ []) where
      course_on : CourseIn e.system e.bound e.plan past.extent q (h.log ++ more) (h.is ++ i ∷ [])
      course_on = subst (λ (l : List Instant). CourseIn e.system e.bound e.plan past.extent q (h.log ++ more) (h.is ++ l)) one (On p q values h.log more h.is h.course does leads within)

      -- one after which an instant stands, of a run whose instants aren't put
      pub on_unput : puts_instants past.extent ≡ false → Here e olds past q news present count
      on_unput unput = record {
        log = h.log ++ more;
        is = h.is ++ i ∷ [];
        told = told_on olds mids news h.log more h.told told;
        course = course_on;
        put = h.put ∙ ap (λ (ps : List (List ℕ)). with_pieces past.sink ps) (pieces_stay e.system e.plan past.extent unput h.is (h.is ++ i ∷ []));
        counted = h.counted ∙ counted_stay past.extent unput h.is (h.is ++ i ∷ []);
      }

      module _ (puts : puts_instants past.extent ≡ true) (after : SinkView) where
        -- and of one whose are, where it was put
        pub on_shown : after ≡ with_piece present (text_of i) → Here e olds past q news after (count + 1)
        on_shown put = record {
          log = h.log ++ more;
          is = h.is ++ i ∷ [];
          told = told_on olds mids news h.log more h.told told;
          course = course_on;
          put = put ∙ ap (λ (v : SinkView). with_piece v (text_of i)) h.put ∙ pieces_more e.system e.plan past.extent puts past.sink h.is i;
          counted = ap (λ (n : ℕ). n + 1) h.counted ∙ counted_more past.extent puts h.is i;
        }

        -- or its put failed
        pub cut : PutsPrefixOf present (text_of i) after → RunsIn e.system e.bound e.plan past.extent olds news past.sink after count E.WriteFault
        cut put = record {
          log = h.log ++ more;
          is = h.is;
          told = told_on olds mids news h.log more h.told told;
          ends = record {
            pieces = pieces_in e.system e.plan past.extent h.is;
            piece = text_of i;
            awaits = Shown past.extent q (h.log ++ more) h.is i puts one course_on;
            cuts = subst (λ (v : SinkView). PutsPrefixOf v (text_of i) after) h.put put;
          };
          counted_is = h.counted;
        }

  -- several parts, after which no instant stands
  pub on_far : (q : Place) → ((prefix : List Sent) (is : List Instant) → CourseIn e.system e.bound e.plan past.extent p prefix is → CourseIn e.system e.bound e.plan past.extent q (prefix ++ more) is) → Here e olds past q news present count
  on_far q leads = record {
    log = h.log ++ more;
    is = h.is;
    told = told_on olds mids news h.log more h.told told;
    course = leads h.log h.is h.course;
    put = h.put;
    counted = h.counted;
  }

  -- and up to an end
  pub off_far : (end : RunEnd) (point : ℕ) → ((prefix : List Sent) (is : List Instant) → CourseIn e.system e.bound e.plan past.extent p prefix is → FinishesIn e.system e.bound e.plan past.extent end point (prefix ++ more) is) →
      Follows e past.extent olds past.sink (record { end = end; point = point }) news present count
  off_far end point leads = record {
    log = h.log ++ more;
    is = h.is;
    told = told_on olds mids news h.log more h.told told;
    finishes = leads h.log h.is h.course;
    put = h.put;
    counted = h.counted;
  }

  -- a bad answer
  pub off : (bad : BadAnswer) → Falls e.system (part_at e.system e.bound e.plan p) bad more → Follows e past.extent olds past.sink (record { end = E.Bad bad; point = point_of e.plan p }) news present count
  off bad falls = off_far (E.Bad bad) (point_of e.plan p) (λ prefix is course. Badly p bad prefix more is course falls)

module _ (e : Experiment) (olds : List Instance) (past : Past) (p : Place) (mids : List Instance) (present : SinkView) (count : ℕ) (h : Here e olds past p mids present count) where
  -- where nothing is sent
  pub on_silently : (q : Place) → part_at e.system e.bound e.plan p ≡ Calls [] → LeadsTo e.system e.plan p [] [] q → IsWithin past.extent q → shown q ≡ [] → Here e olds past q mids present count
  on_silently q is leads within quiet =
      on_quietly e olds past p mids mids present count h [] (told_none mids) q [] (subst (λ (part : Part). Does e.system part [] []) (sym is) (record { calls_are = refl; good = All-nil (IsGoodOf (shapes_of e.system)) })) leads within quiet

  -- an end
  pub ends : (end : RunEnd) → EndsAt e.system e.plan end p → MayEnd past.extent end → Follows e past.extent olds past.sink (record { end = end; point = point_of e.plan p }) mids present count
  ends end at may = record { log = h.log; is = h.is; told = h.told; finishes = Well p end h.log h.is h.course at may; put = h.put; counted = h.counted }
