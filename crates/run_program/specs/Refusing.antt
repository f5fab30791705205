-- The outcome where nothing is loaded.
use Rattle.std.specs.Prelude.{◌≡◌, ◌⊎◌, List, ℕ}
use Rattle.system_files.specs.declared.loading.LoadError.{LoadError}
use Rattle.system_files.specs.declared.loading.LoadError.TheVariants as end
use Rattle.system_files.specs.declared.named.FileFault.{FileFault}
use Rattle.system_files.specs.declared.named.FileFault.TheVariants.{Unread, Missing, TooBig, Broken}
use Rattle.run_program.specs.declared.outcome.Outcome.{Outcome}
use Rattle.run_program.specs.declared.outcome.Outcome.TheVariants.{Memory, File}

-- a file that isn't taken is told; for what it breaks memory may run out
abbrev pub TellsFile : List ℕ → FileFault → Outcome → Type 0
TellsFile path (Broken rule place ports) outcome =
    (outcome ≡ File path (Broken rule place ports)) ⊎ (outcome ≡ Memory)
TellsFile path Unread outcome = outcome ≡ File path Unread
TellsFile path Missing outcome = outcome ≡ File path Missing
TellsFile path TooBig outcome = outcome ≡ File path TooBig

abbrev pub TellsEnd : LoadError → Outcome → Type 0
TellsEnd (end.File file fault) outcome = TellsFile file.path fault outcome
TellsEnd end.Memory outcome = outcome ≡ Memory
