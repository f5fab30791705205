-- The replies of a batch: where each stands, and what those that were told say of all.
use Rattle.std.proofs.Common.{◌≡◌, ℕ, ◌+◌, ◌*◌, ◌<◌, ◌≤◌, ◌⊎◌, inl, inr, List, [], ◌∷◌, ◌++◌, append-nil, length, take, drop, get_or, set, arith, refl, sym, ap, ◌∙◌, subst}
use Rattle.std.proofs.lemmas.List.{take_all, take_more, take_more_set}
use Rattle.fmi_calls.specs.Kinds.{kind_of, kind_of_reply}
use Rattle.fmi_calls.specs.declared.call.Call.{Call}
use Rattle.fmi_calls.specs.declared.call.Reply.{Reply}
use Rattle.fmu_peer.proofs.ManyLemmas.{a_reply}
use Rattle.link_frames.specs.Batch.{IsBatch, IsReplyBatch, kind_of_first, kind_of_first_reply}
use Rattle.link_frames.specs.Reply.{IsReplyFrame}
use Rattle.exact_parts.specs.Taking.{Gets, Takes}
use Rattle.exact_parts.specs.declared.taken.Taken.{Taken}
use Rattle.exact_parts.specs.declared.taken.Taken.TheVariants.{Bad, Got, NeedMore}
use Rattle.link_frames.proofs.CallerLemmas.{one_reply_batch, reply_batch_long, reply_items_stand, reply_single}
use Rattle.fmu_link.proofs.FrameLemmas.{no_reply, reply_length, whole_reply}
use Rattle.fmu_link.specs.Batches.{FallsShort, IsItem, IsNoAnswer, MayAnswer, TellsFirst}

-- ---- how many there are

-- where all of the bytes are taken, they are a batch
pub all_taken : (bytes : List ℕ) (value size : ℕ) → size ≡ length bytes → Gets IsReplyBatch bytes value size → IsReplyBatch value bytes
all_taken bytes value size all got = subst (IsReplyBatch value) (take_all size bytes (omega (arith, all))) got.spelled

-- a batch is taken whole, and nothing else is
pub whole_taken : (bytes : List ℕ) (taken : Taken ℕ) (count : ℕ) → ((other : Taken ℕ) → Takes IsReplyBatch bytes other → taken ≡ other) → IsReplyBatch count bytes → taken ≡ Got count (length bytes)
whole_taken bytes taken count only b =
    only (Got count (length bytes)) (record { within = omega arith; spelled = subst (IsReplyBatch count) (sym (take_all (length bytes) bytes (omega arith))) b })

-- what isn't taken whole, or isn't taken, is no batch
pub not_whole : (bytes : List ℕ) (taken : Taken ℕ) (value size : ℕ) → ((other : Taken ℕ) → Takes IsReplyBatch bytes other → taken ≡ other) → taken ≡ Got value size → (size ≡ length bytes → ⊥) →
    (count : ℕ) → IsReplyBatch count bytes → ⊥
not_whole bytes taken value size only is other count b =
    let whole : taken ≡ Got count (length bytes) = whole_taken bytes taken count only b in
    other (cc (is, whole))

pub not_taken : (bytes : List ℕ) (taken : Taken ℕ) → ((other : Taken ℕ) → Takes IsReplyBatch bytes other → taken ≡ other) → (taken ≡ NeedMore) ⊎ ((at : ℕ) × (taken ≡ Bad at)) →
    (count : ℕ) → IsReplyBatch count bytes → ⊥
not_taken bytes taken only none count b =
    let whole : taken ≡ Got count (length bytes) = whole_taken bytes taken count only b in
    elim none [ inl e ↦ cc | inr e ↦ let f = e.1 in cc ]

pub as_many : (bytes : List ℕ) (count : ℕ) (replies : List Reply) → IsReplyBatch count bytes → IsBatch IsReplyFrame kind_of_reply replies bytes → count ≡ length replies
as_many bytes count replies b is = b.count_is ∙ ap (λ (rs : List Reply). length rs) (one_reply_batch b.values replies bytes b.batch is)

-- ---- where a reply stands

-- a frame is of one reply
one_reply : (a b : Reply) (bytes : List ℕ) → IsReplyFrame a bytes → IsReplyFrame b bytes → a ≡ b
one_reply a b bytes is was = (reply_single a b bytes [] is (subst (IsReplyFrame b) (sym (append-nil bytes)) was)).0

-- it stands within the bytes that came
pub item_within : (bytes : List ℕ) (count i : ℕ) → IsReplyBatch count bytes → i < count → 24 * (i + 1) + 24 ≤ length bytes
item_within bytes count i b lt =
    let long = reply_batch_long count bytes b in
    omega (arith, long, lt)

module _ (bytes : List ℕ) (count i : ℕ) (b : IsReplyBatch count bytes) (lt : i < count) where
  stands : (replies : List Reply) (d : Reply) → IsBatch IsReplyFrame kind_of_reply replies bytes → IsReplyFrame (get_or replies i d) (take 24 (drop (24 * (i + 1)) bytes))
  stands replies d is =
      let many = as_many bytes count replies b is in
      reply_items_stand replies bytes i d is (omega (arith, lt, many))

  module _ (size : ℕ) (long : size ≡ 24) where
    -- some reply stands there
    there : IsReplyFrame (get_or b.values i a_reply) (take size (drop (24 * (i + 1)) bytes))
    there = subst (λ (n : ℕ). IsReplyFrame (get_or b.values i a_reply) (take n (drop (24 * (i + 1)) bytes))) (sym long) (stands b.values a_reply b.batch)

    whole : length (take size (drop (24 * (i + 1)) bytes)) ≡ 24
    whole = reply_length (get_or b.values i a_reply) (take size (drop (24 * (i + 1)) bytes)) there

    -- which is taken
    pub item_is : (reply : Reply) (n : ℕ) → Gets IsReplyFrame (take size (drop (24 * (i + 1)) bytes)) reply n → IsItem bytes i reply
    item_is reply n got replies d is =
        let frame : IsReplyFrame reply (take 24 (drop (24 * (i + 1)) bytes)) = subst (λ (m : ℕ). IsReplyFrame reply (take m (drop (24 * (i + 1)) bytes))) long (whole_reply reply (take size (drop (24 * (i + 1)) bytes)) n whole got) in
        one_reply (get_or replies i d) reply (take 24 (drop (24 * (i + 1)) bytes)) (stands replies d is) frame

    pub item_taken : (taken : Taken Reply) → ((other : Taken Reply) → Takes IsReplyFrame (take size (drop (24 * (i + 1)) bytes)) other → taken ≡ other) →
        (taken ≡ NeedMore) ⊎ ((at : ℕ) × (taken ≡ Bad at)) → ⊥
    item_taken taken only none = no_reply (take size (drop (24 * (i + 1)) bytes)) taken whole only none (get_or b.values i a_reply) there

-- ---- whether they may answer the calls

first_reply : (replies : List Reply) (reply : Reply) → 1 ≤ length replies → get_or replies 0 reply ≡ reply → kind_of_first_reply replies ≡ kind_of_reply reply
first_reply [] reply some is = absurd (omega (arith, some))
first_reply (r ∷ rs) reply some is = ap kind_of_reply is

first_call : (calls : List Call) (d : Call) → 1 ≤ length calls → kind_of_first calls ≡ kind_of (get_or calls 0 d)
first_call [] d some = absurd (omega (arith, some))
first_call (c ∷ cs) d some = refl

module _ (calls : List Call) (d : Call) (bytes : List ℕ) (count : ℕ) (reply : Reply) (some : 1 ≤ length calls) (b : IsReplyBatch count bytes) (item : IsItem bytes 0 reply) where
  first_kind : (replies : List Reply) → IsBatch IsReplyFrame kind_of_reply replies bytes → kind_of_first_reply replies ≡ kind_of_reply reply
  first_kind replies is = first_reply replies reply is.some (item replies reply is)

  pub may_answer : count ≤ length calls → kind_of_reply reply ≡ kind_of (get_or calls 0 d) → MayAnswer calls bytes
  may_answer few same replies is =
      let many = as_many bytes count replies b is in (
        omega (arith, few, many),
        first_kind replies is ∙ same ∙ sym (first_call calls d some),
      )

  pub other_kind : (kind_of_reply reply ≡ kind_of (get_or calls 0 d) → ⊥) → IsNoAnswer calls bytes
  other_kind other replies is answers = other (sym (first_kind replies is) ∙ answers.1 ∙ first_call calls d some)

pub too_many : (calls : List Call) (bytes : List ℕ) (count : ℕ) → IsReplyBatch count bytes → length calls < count → IsNoAnswer calls bytes
too_many calls bytes count b more replies is answers =
    let many = as_many bytes count replies b is in
    let few = answers.0 in
    absurd (omega (arith, many, more, few))

-- ---- those that were told

-- the first of them are told
abbrev pub AreTold : List ℕ → List Reply → ℕ → Type 0
AreTold bytes told n = (replies : List Reply) → IsBatch IsReplyFrame kind_of_reply replies bytes → take n told ≡ take n replies

pub told_more : (bytes : List ℕ) (told : List Reply) (i : ℕ) (reply : Reply) (count : ℕ) → i < length told → IsReplyBatch count bytes → i < count → AreTold bytes told i → IsItem bytes i reply → AreTold bytes (set told i reply) (i + 1)
told_more bytes told i reply count within b lt before item replies is =
    let many = as_many bytes count replies b is in
    take_more_set told i reply within
    ∙ ap (λ (rs : List Reply). rs ++ reply ∷ []) (before replies is)
    ∙ ap (λ (r : Reply). take i replies ++ r ∷ []) (sym (item replies reply is))
    ∙ sym (take_more replies i reply (omega (arith, lt, many)))

module _ (calls : List Call) (bytes : List ℕ) (told : List Reply) (count : ℕ) (b : IsReplyBatch count bytes) (may : MayAnswer calls bytes) where
  pub tells_first : (n : ℕ) → n ≤ count → AreTold bytes told n → TellsFirst calls bytes told n
  tells_first n le are =
      let count_is = b.count_is in
      record {
        replies = b.values;
        is_batch = b.batch;
        answers = may b.values b.batch;
        within = omega (arith, le, count_is);
        first = are b.values b.batch;
      }

  pub falls_short : count < length calls → AreTold bytes told count → FallsShort calls bytes told
  falls_short few are =
      let count_is = b.count_is in
      record {
        replies = b.values;
        is_batch = b.batch;
        answers = may b.values b.batch;
        few = omega (arith, few, count_is);
        all = ap (λ (n : ℕ). take n told) (sym count_is) ∙ are b.values b.batch ∙ take_all count b.values (omega (arith, count_is));
      }
