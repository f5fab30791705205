-- A tree with the tables of what its elements name.
use Rattle.fmu_description.specs.declared.indexed.IndexedTree.{IndexedTree}
use Rattle.fmu_description.specs.Elements.{variable_key, clock_key, output_key, initial_key}
use Rattle.doc_tables.specs.Tables.{IsTable}
use Rattle.fmu_description.specs.Names.{MarksRepeated, is_repeated}
use Rattle.fmu_description.specs.Places.{FindsCoSimulation, MarksIgnored, found, is_ignored}

-- the tables are those of the tree
pub record IsIndexed (d : IndexedTree) : Type 0 where
  pub variables : IsTable (variable_key d.tree.now) (found d.variables)
  pub clocks : IsTable (clock_key d.tree.now) (found d.clocks)
  pub outputs : IsTable (output_key d.tree.now) (found d.outputs)
  pub initial_unknowns : IsTable (initial_key d.tree.now) (found d.initial_unknowns)
  pub names : MarksRepeated d.tree.now (is_repeated d.names)
  pub co_simulation : FindsCoSimulation d.tree.now d.co_simulation
  pub ignored : MarksIgnored d.tree.now (is_ignored d.ignored)
