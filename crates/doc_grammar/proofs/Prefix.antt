-- The state after a prefix tells whether some document begins so.
use Rattle.std.proofs.Common.{◌≡◌, ℕ, ◌<◌, ◌≤◌, List, [], ◌∷◌, ◌++◌, length, inl, inr, refl, sym, ap, ◌∙◌, subst, arith, append_assoc}
use Rattle.std.proofs.lemmas.Bool.{cases_lt}
use Rattle.doc_grammar.specs.Characters.{class}
use Rattle.doc_grammar.specs.Grammar.{Limits, Event, Document, Begins, IsLongest}
use Rattle.doc_grammar.specs.declared.reasons.Why.{Why}
use Rattle.doc_grammar.specs.Machine.{State, Step, dead, go, emit, along, step, Run, Leads, start}
use Rattle.doc_grammar.proofs.Backward.{run_sound}
use Rattle.doc_grammar.proofs.Forward.{run_complete}
use Rattle.doc_grammar.proofs.Finish.{finish, finish_run, Sane, SaneStep}
use Rattle.doc_grammar.proofs.Sanity.{sane_step}

pub along_map : (P Q : State → List Event → Type 0) → ((s : State) (o : List Event) → P s o → Q s o) → (v : Step) (o : List Event) → along P v o → along Q v o
along_map P Q f (dead y) o h = absurd h
along_map P Q f (go s) o h = f s o h
along_map P Q f (emit s es) o (more, e, h) = (more, e, f s more h)

module _ (l : Limits) where
  -- a step l does one thing
  same_state : (P Q : State → List Event → Type 0) (w : Step) (o1 o2 : List Event) → along P w o1 → along Q w o2 → (s : State) × (p1 : List Event) × (p2 : List Event) × P s p1 × Q s p2
  same_state P Q (dead y) o1 o2 h k = absurd h
  same_state P Q (go s) o1 o2 h k = (s, o1, o2, h, k)
  same_state P Q (emit s es) o1 o2 h k = (s, h.0, k.0, h.2, k.2)

  along_append : (P Q : State → List Event → Type 0) (o2 : List Event) → ((s : State) (o : List Event) → P s o → Q s (o ++ o2)) → (w : Step) (o1 : List Event) → along P w o1 → along Q w (o1 ++ o2)
  along_append P Q o2 f (dead y) o1 h = absurd h
  along_append P Q o2 f (go s) o1 h = f s o1 h
  along_append P Q o2 f (emit s es) o1 (more, e, h) = (more ++ o2, ap (λ o. o ++ o2) e ∙ append_assoc es more o2, f s more h)

  pub lead_run : (p : List ℕ) (s t : State) (o1 o2 : List Event) (rest : List ℕ) → Leads l s p t o1 → Run l t rest o2 → Run l s (p ++ rest) (o1 ++ o2)
  lead_run [] s t o1 o2 rest (e, f) r = subst (λ u. Run l u rest (o1 ++ o2)) (sym e) (subst (λ o. Run l t rest (o ++ o2)) (sym f) r)
  lead_run (b ∷ p) s t o1 o2 rest h r =
      along_append (λ u o. Leads l u p t o) (λ u o. Run l u (p ++ rest) o) o2 (λ u o g. lead_run p u t o o2 rest g r) (step l s (class b) b) o1 h

  -- the same for one more lead
  pub lead_lead : (p : List ℕ) (s t u : State) (o1 o2 : List Event) (rest : List ℕ) → Leads l s p t o1 → Leads l t rest u o2 → Leads l s (p ++ rest) u (o1 ++ o2)
  lead_lead [] s t u o1 o2 rest (e, f) r = subst (λ v. Leads l v rest u (o1 ++ o2)) (sym e) (subst (λ o. Leads l t rest u (o ++ o2)) (sym f) r)
  lead_lead (b ∷ p) s t u o1 o2 rest h r =
      along_append (λ v o. Leads l v p t o) (λ v o. Leads l v (p ++ rest) u o) o2 (λ v o g. lead_lead p v t u o o2 rest g r) (step l s (class b) b) o1 h

  -- after a prefix the run goes on from its state
  pub run_lead : (p : List ℕ) (s t : State) (o1 o : List Event) (rest : List ℕ) → Leads l s p t o1 → Run l s (p ++ rest) o → (o2 : List Event) × Run l t rest o2
  run_lead [] s t o1 o rest h r = (o, subst (λ u. Run l u rest o) h.0 r)
  run_lead (b ∷ p) s t o1 o rest h r =
      let d = same_state (λ u o. Leads l u p t o) (λ u o. Run l u (p ++ rest) o) (step l s (class b) b) o1 o h r in
      run_lead p d.0 t d.1 d.2 rest d.3 d.4

  along_sane : (P : State → List Event → Type 0) (v : Step) (o : List Event) → SaneStep v → along P v o → (s : State) × (o2 : List Event) × Sane s × P s o2
  along_sane P (dead y) o g h = absurd h
  along_sane P (go s) o g h = (s, o, g, h)
  along_sane P (emit s es) o g h = (s, h.0, g, h.2)

  pub lead_sane : (p : List ℕ) (s t : State) (o : List Event) → Sane s → Leads l s p t o → Sane t
  lead_sane [] s t o g (e, f) = subst Sane e g
  lead_sane (b ∷ p) s t o g h = let d = along_sane (λ u o. Leads l u p t o) (step l s (class b) b) o (sane_step l s (class b) b) h in lead_sane p d.0 t d.1 d.2 d.3

  -- a prefix that leads somewhere is completed by the bytes that finish its state
  pub lead_finish : (p : List ℕ) (t : State) (o : List Event) → Leads l start p t o → (tree : List Event) × Document l (p ++ finish l t) tree
  lead_finish p t o h =
      let e = finish_run l t (lead_sane p start t o tt h) in
      (o ++ e.0, run_sound l (p ++ finish l t) start (o ++ e.0) (lead_run p start t o e.0 (finish l t) h e.1))

  -- a prefix that leads somewhere begins a document
  pub lead_begins : (p : List ℕ) (t : State) (o : List Event) → Leads l start p t o → Begins l p
  lead_begins p t o h =
      let e = finish_run l t (lead_sane p start t o tt h) in
      (finish l t, o ++ e.0, run_sound l (p ++ finish l t) start (o ++ e.0) (lead_run p start t o e.0 (finish l t) h e.1))

  -- where the next byte is dead no document goes on so
  pub dead_end : (y : Why) (p : List ℕ) (b : ℕ) (more : List ℕ) (t : State) (o : List Event) (tree : List Event) → Leads l start p t o → step l t (class b) b ≡ dead y → Document l (p ++ b ∷ more) tree → ⊥
  dead_end y p b more t o tree h e d =
      let r = run_lead p start t o tree (b ∷ more) h (run_complete l (p ++ b ∷ more) tree d) in
      subst (λ w. along (λ u. Run l u more) w r.0) e r.1

  -- two prefixes of one list: the longer one goes on after the shorter
  pub longer_prefix : (p q x y : List ℕ) → p ++ x ≡ q ++ y → length p < length q → (b : ℕ) × (more : List ℕ) × (q ≡ p ++ b ∷ more) × (x ≡ b ∷ (more ++ y))
  longer_prefix [] [] x y e h = absurd (omega (arith, h))
  longer_prefix [] (b ∷ q) x y e h = (b, q, refl, e)
  longer_prefix (a ∷ p) [] x y e h = absurd (omega (arith, h))
  longer_prefix (a ∷ p) (b ∷ q) x y e h =
      let e2 : p ++ x ≡ q ++ y = cc in
      let e3 : b ≡ a = cc in
      let r = longer_prefix p q x y e2 (omega (arith, h)) in
      (r.0, r.1, ap (λ z. b ∷ z) r.2 ∙ ap (λ z. z ∷ (p ++ r.0 ∷ r.1)) e3, r.3)

  not_longer : (y : Why) (p : List ℕ) (b : ℕ) (rest : List ℕ) (t : State) (o : List Event) → Leads l start p t o → step l t (class b) b ≡ dead y → (q more : List ℕ) → p ++ b ∷ rest ≡ q ++ more → Begins l q → length q ≤ length p
  not_longer y p b rest t o h e q more f g =
      elim (cases_lt (length p) (length q)) [
        | inl lt ↦ let d = longer_prefix p q (b ∷ rest) more f lt in
            let s : d.0 ≡ b = cc d.3 in
            absurd (dead_end y p b (d.1 ++ g.0) t o g.1 h e
            (subst (λ z. Document l z g.1) (ap (λ z. z ++ g.0) d.2 ∙ append_assoc p (d.0 ∷ d.1) g.0 ∙ ap (λ z. p ++ z ∷ (d.1 ++ g.0)) s) g.2))
        | inr le ↦ le
      ]

  pub dead_longest : (y : Why) (p : List ℕ) (b : ℕ) (rest : List ℕ) (t : State) (o : List Event) → Leads l start p t o → step l t (class b) b ≡ dead y → IsLongest l (p ++ b ∷ rest) p
  dead_longest y p b rest t o h e = record {
    prefix = (b ∷ rest, refl);
    begins = lead_begins p t o h;
    longest = λ q more f g. not_longer y p b rest t o h e q more f g;
  }

  same_out : (P Q : State → List Event → Type 0) → ((s : State) (o1 o2 : List Event) → P s o1 → Q s o2 → o1 ≡ o2) → (v : Step) (o1 o2 : List Event) → along P v o1 → along Q v o2 → o1 ≡ o2
  same_out P Q f (dead y) o1 o2 h k = absurd h
  same_out P Q f (go s) o1 o2 h k = f s o1 o2 h k
  same_out P Q f (emit s es) o1 o2 h k = h.1 ∙ ap (λ o. es ++ o) (f s h.0 k.0 h.2 k.2) ∙ sym k.1

  pub one_run : (bytes : List ℕ) (s : State) (o1 o2 : List Event) → Run l s bytes o1 → Run l s bytes o2 → o1 ≡ o2
  one_run [] s o1 o2 h k = h.1 ∙ sym k.1
  one_run (b ∷ bytes) s o1 o2 h k = same_out (λ t. Run l t bytes) (λ t. Run l t bytes) (λ t p q. one_run bytes t p q) (step l s (class b) b) o1 o2 h k

  -- a document has one tree
  pub one_tree : (bytes : List ℕ) (t1 t2 : List Event) → Document l bytes t1 → Document l bytes t2 → t1 ≡ t2
  one_tree bytes t1 t2 h k = one_run bytes start t1 t2 (run_complete l bytes t1 h) (run_complete l bytes t2 k)
