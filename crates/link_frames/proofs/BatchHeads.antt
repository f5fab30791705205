-- What 24 bytes tell as the head of a batch, and which batch they begin.
use Rattle.std.proofs.Common.{◌≡◌, ℕ, ◌+◌, ◌*◌, ◌⊎◌, inl, inr, List, [], ◌++◌, length, take, sym, ap, subst, ◌∙◌, append-nil, arith}
use Rattle.std.specs.Prelude.{slice_index}
use Rattle.std.proofs.lemmas.Grind.{common_steps}
use Rattle.std.proofs.lemmas.List.{length-take-le, take-take, take_all, take_at}
use Rattle.link_frames.specs.declared.layout.Form.TheVariants.{OfBatch}
use Rattle.exact_parts.specs.declared.taken.Taken.{Taken}
use Rattle.exact_parts.specs.declared.taken.Taken.TheVariants.{Got, NeedMore, Bad}
use Rattle.link_frames.specs.Batch.{IsHeadOf, IsReplyBatch, batch_head}
use Rattle.link_frames.specs.Head.{numbers_of, spelling}
use Rattle.link_frames.specs.Numbers.{Reads}
use Rattle.exact_parts.specs.Taking.{Gets, Takes}
use Rattle.link_frames.proofs.BatchLaws.{reply_batch_long}
use Rattle.link_frames.proofs.BatchLemmas.{batch_reads, headed}
use Rattle.link_frames.proofs.HeadLemmas.{head_length}
use Rattle.link_frames.proofs.NumbersLemmas.{reads_single}
use Rattle.exact_parts.proofs.CallerLemmas.{only_one}

-- numbers of a head that are read from them are all of them
pub head_taken : (bytes ns : List ℕ) (n : ℕ) → length bytes ≡ 24 → Gets (Reads OfBatch 7 []) bytes ns n → IsHeadOf (slice_index ns 4) bytes
head_taken bytes ns n whole got =
    let h = headed ns (take n bytes) got.spelled in
    let size : length (take n bytes) ≡ 24 = ap length h.spelled ∙ head_length (batch_head (slice_index ns 4)) in
    let all : take n bytes ≡ bytes = take_all n bytes (grind (arith, common_steps, size, whole)) in
    record { some = h.count.some; few = h.count.few; spelled = sym all ∙ h.spelled }

-- where none are read, they are the head of no batch
pub no_head_taken : (bytes : List ℕ) (taken : Taken (List ℕ)) → length bytes ≡ 24 → Takes (Reads OfBatch 7 []) bytes taken →
    (taken ≡ NeedMore) ⊎ ((at : ℕ) × (taken ≡ Bad at)) → (count : ℕ) → IsHeadOf count bytes → ⊥
no_head_taken bytes taken whole takes none count h =
    let all : take 24 bytes ≡ bytes = take_all 24 bytes (omega (arith, whole)) in
    let reads : Reads OfBatch 7 [] (numbers_of (batch_head count)) (take 24 bytes) = subst (Reads OfBatch 7 [] (numbers_of (batch_head count))) (sym (all ∙ h.spelled)) (batch_reads count h.some h.few) in
    let got : taken ≡ Got (numbers_of (batch_head count)) 24 =
    only_one (Reads OfBatch 7 []) (reads_single OfBatch 7 []) bytes taken (Got (numbers_of (batch_head count)) 24) takes (record { within = omega (arith, whole); spelled = reads }) in
    elim none [ inl e ↦ cc | inr e ↦ let f = e.1 in cc ]

-- one head tells one count
pub head_tells : (m n : ℕ) (bytes : List ℕ) → IsHeadOf m bytes → IsHeadOf n bytes → m ≡ n
head_tells m n bytes one other =
    let first : Reads OfBatch 7 [] (numbers_of (batch_head m)) bytes = subst (Reads OfBatch 7 [] (numbers_of (batch_head m))) (sym one.spelled) (batch_reads m one.some one.few) in
    let second : Reads OfBatch 7 [] (numbers_of (batch_head n)) (bytes ++ []) = subst (Reads OfBatch 7 [] (numbers_of (batch_head n))) (sym (append-nil bytes ∙ other.spelled)) (batch_reads n other.some other.few) in
    let same : numbers_of (batch_head m) ≡ numbers_of (batch_head n) = (reads_single OfBatch 7 [] (numbers_of (batch_head m)) (numbers_of (batch_head n)) bytes [] first second).0 in
    ap (λ (ns : List ℕ). slice_index ns 4) same

-- a batch of replies that begins with the head of so many, and has as many bytes, is one of so many
pub counted_batch : (bytes : List ℕ) (count value size : ℕ) → IsHeadOf count (take 24 bytes) → length bytes ≡ 24 * (count + 1) → Gets IsReplyBatch bytes value size → IsReplyBatch count bytes
counted_batch bytes count value size h len got =
    let part = take size bytes in
    let b : IsReplyBatch value part = got.spelled in
    let long : length part ≡ 24 * (value + 1) = reply_batch_long value part b in
    let took : length part ≡ size = length-take-le size bytes got.within in
    let head : take 24 part ≡ spelling (batch_head value) =
    ap (λ (xs : List ℕ). take 24 xs) b.batch.spelled ∙ take_at (spelling (batch_head (length b.values))) b.batch.rest 24 (head_length (batch_head (length b.values))) ∙ ap (λ (n : ℕ). spelling (batch_head n)) (sym b.count_is) in
    let prefix : take 24 part ≡ take 24 bytes = take-take 24 size bytes (omega (arith, long, took)) in
    let some = b.batch.some in
    let few = b.batch.few in
    let count_is = b.count_is in
    let told : IsHeadOf value (take 24 bytes) = record { some = omega (arith, some, count_is); few = omega (arith, few, count_is); spelled = sym prefix ∙ head } in
    let is : value ≡ count = head_tells value count (take 24 bytes) told h in
    let all : part ≡ bytes = take_all size bytes (omega (arith, long, took, is, len)) in
    subst (λ (n : ℕ). IsReplyBatch n bytes) is (subst (IsReplyBatch value) all b)
