-- Past the last element no rule is broken: there is no name, no attribute and no parent.
use Rattle.std.proofs.Common.{◌≡◌, ℕ, true, List, None, sym, ◌∙◌, refl, inl, inr}
use Rattle.std.specs.Prelude.{slice_get}
use Rattle.std.proofs.lemmas.Bool.{both_ways}
use Rattle.std.proofs.lemmas.Option.{none-some}
use Rattle.doc_grammar.specs.Nodes.{Node}
use Rattle.doc_tables.specs.Tables.{IsRepeated}
use Rattle.fmu_description.specs.Elements.{is_co_simulation, is_variable, is_clock, is_alias, is_output, is_initial_unknown, variable_key, name_key, IsUnknown}
use Rattle.doc_tree.specs.declared.rule.DescriptionRule.{DescriptionRule}
use Rattle.doc_tree.specs.declared.rule.DescriptionRule.TheVariants as r
use Rattle.fmu_description.specs.Rules.{ViolatesDescription, LacksSomething, MisreadsSomething}

module _ (t : List Node) (k : ℕ) (past : slice_get t k ≡ None) where
  co_simulation_past : is_co_simulation t k ≡ true → ⊥
  co_simulation_past h = both_ways _ (rw past refl) h

  variable_past : is_variable t k ≡ true → ⊥
  variable_past h = both_ways _ (rw past refl) h

  clock_past : is_clock t k ≡ true → ⊥
  clock_past h = both_ways _ (rw past refl) h

  alias_past : is_alias t k ≡ true → ⊥
  alias_past h = both_ways _ (rw past refl) h

  output_past : is_output t k ≡ true → ⊥
  output_past h = both_ways _ (rw past refl) h

  initial_past : is_initial_unknown t k ≡ true → ⊥
  initial_past h = both_ways _ (rw past refl) h

  unknown_past : IsUnknown t k → ⊥
  unknown_past (inl a) = output_past a.0
  unknown_past (inr b) = initial_past b.0

  reference_past : IsRepeated (variable_key t) k → ⊥
  reference_past h =
      let keyless : variable_key t k ≡ None = rw past refl in
      none-some h.0 (sym keyless ∙ h.1)

  name_past : IsRepeated (name_key t) k → ⊥
  name_past h =
      let keyless : name_key t k ≡ None = rw past refl in
      none-some h.0 (sym keyless ∙ h.1)

  lacks_past : (k ≡ 0 → ⊥) → LacksSomething t k → ⊥
  lacks_past inside (inl a) = inside a.0
  lacks_past inside (inr (inl a)) = co_simulation_past a.0.0
  lacks_past inside (inr (inr (inl a))) = variable_past a.0
  lacks_past inside (inr (inr (inr (inl a)))) = alias_past a.0
  lacks_past inside (inr (inr (inr (inr a)))) = unknown_past a.0

  misreads_past : MisreadsSomething t k → ⊥
  misreads_past (inl a) = co_simulation_past a.0.0
  misreads_past (inr (inl a)) = variable_past a.0
  misreads_past (inr (inr (inl a))) = clock_past a.0
  misreads_past (inr (inr (inr a))) = unknown_past a.0

  pub breaks_none : (per_second : ℕ) → (k ≡ 0 → ⊥) → (rule : DescriptionRule) → ViolatesDescription t per_second rule k → ⊥
  breaks_none n inside r.RootName h = inside h.0
  breaks_none n inside r.Version h = inside h.0
  breaks_none n inside r.NoCoSimulation h = inside h.0
  breaks_none n inside r.Absent h = lacks_past inside h
  breaks_none n inside r.Misread h = misreads_past h
  breaks_none n inside r.ReferenceTwice h = reference_past h
  breaks_none n inside r.NameTwice h = name_past h
  breaks_none n inside r.NoInterval h = clock_past h.0.0
  breaks_none n inside r.ClockCausality h = clock_past h.0.0
  breaks_none n inside r.Uneven h = clock_past h.0.0
  breaks_none n inside r.NoClock h = variable_past h.0
  breaks_none n inside r.NoVariable h = unknown_past h.0
  breaks_none n inside r.SerializesUnsaved h = co_simulation_past h.0.0
  breaks_none n inside r.LeftOut h = clock_past h.0.0
  breaks_none n inside r.ClockWithoutEvents h = clock_past h.0.0
