-- A script's room doesn't fill before its list ends.
use Rattle.std.proofs.Common.{◌≡◌, ℕ, ◌+◌, ◌<◌, ◌≤◌, ◌^◌, List, Option, Some, None, Ok, Err, Bool, true, false, if◌then◌else◌, length, nat_le, IsTrue, unwrap_or, refl, sym, ap, ◌∙◌, subst, arith}
use Rattle.std.proofs.lemmas.Option.{slice_get_past}
use Rattle.std.proofs.lemmas.Bool.Decides.{nat_tests}
use Rattle.fmu_peer.specs.declared.peer.PeerFault.TheVariants.{Failed}
use Rattle.fmu_peer.specs.declared.talk_room.TalkRoom.{TalkRoom}
use Rattle.fmu_peer.specs.Book.{fills_next}
use Rattle.fmu_peer.specs.View.{Serializes}
use Rattle.bench_fmus.specs.declared.script.Script.{Script}
use Rattle.bench_fmus.specs.Answers.{Answer, answer_at, bytes_after_answer, calls_in, followed, outlasts}
use Rattle.bench_fmus.specs.ScriptView.{script_view}

-- past the end a script fails
past_end : (answers : List Answer) (place : ℕ) → length answers ≤ place → answer_at answers place ≡ Err Failed
past_end answers place past = ap (λ (o : Option Answer). unwrap_or o (Err Failed)) (slice_get_past answers place past)

kept_in : (b : Bool) (room : ℕ) (answers : List Answer) (place : ℕ) → nat_le room (place + 1) ≡ b → length answers < room →
    (if b then Err Failed else answer_at answers place) ≡ answer_at answers place
kept_in true room answers place fills more =
    let full : room ≤ place + 1 = grind (arith, nat_tests) in
    sym (past_end answers place (omega arith))
kept_in false room answers place fills more = refl

-- what a book keeps of a script's answer is that answer
pub kept_answer : (talk : Option TalkRoom) (answers : List Answer) (answer result : Answer) → IsTrue (outlasts talk answers) →
    answer ≡ answer_at answers (calls_in talk) → result ≡ (if fills_next talk then Err Failed else answer) →
    result ≡ answer_at answers (calls_in talk)
kept_answer None answers answer result more answer_is result_is = absurd (cc)
kept_answer (Some t) answers answer result more answer_is result_is =
    let fewer : length answers < t.room = grind (arith, nat_tests) in
    let place = length t.exchanges.items in
    result_is ∙ ap (λ (a : Answer). if nat_le t.room (place + 1) then Err Failed else a) answer_is
    ∙ kept_in (nat_le t.room (place + 1)) t.room answers place refl fewer

-- ---- answers to Serialize

both_ways : (fills : Bool) (answer : Answer) → (if fills then Err Failed else followed answer) ≡ followed (if fills then Err Failed else answer)
both_ways true answer = refl
both_ways false answer = refl

-- what a book keeps of one is that one
pub kept_followed : (talk : Option TalkRoom) (answers : List Answer) (given answer result : Answer) → IsTrue (outlasts talk answers) →
    given ≡ answer_at answers (calls_in talk) → answer ≡ followed given → result ≡ (if fills_next talk then Err Failed else answer) →
    result ≡ followed (answer_at answers (calls_in talk))
kept_followed talk answers given answer result more given_is answer_is result_is =
    result_is ∙ ap (λ (a : Answer). if fills_next talk then Err Failed else a) answer_is ∙ both_ways (fills_next talk) given
    ∙ ap followed (kept_answer talk answers given (if fills_next talk then Err Failed else given) more given_is refl)

-- it is followed by as many bytes as it tells of
pub script_serializes : (s : Script) (answer result : Answer) (bytes : List ℕ) (fills : Bool) → bytes_after_answer answer ≤ 2 ^ 20 → length bytes ≡ bytes_after_answer answer →
    result ≡ (if fills then Err Failed else answer) → Serializes (script_view s) result bytes
script_serializes s answer result bytes true few count is = subst (λ (r : Answer). Serializes (script_view s) r bytes) (sym is) tt
script_serializes s answer result bytes false few count is = subst (λ (r : Answer). Serializes (script_view s) r bytes) (sym is) (by answer few count)
  where
    by : (a : Answer) → bytes_after_answer a ≤ 2 ^ 20 → length bytes ≡ bytes_after_answer a → Serializes (script_view s) a bytes
    by (Ok reply) few count = record { count = count; few = omega arith; packed = tt }
    by (Err fault) few count = tt
