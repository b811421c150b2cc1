use Rattle.wast_tree_nodes.specs.Uncovered.{uncovered_in}
use Rattle.wast_tree_visit.specs.Surveys.{is_of_data}
use Rattle.wast_tree_visit.proofs.Telling.{first_told, any_told, told_first, told_second}
use Rattle.wast_tree_visit.proofs.forms.scan_for_encoding.Goals as goal

pub returns-clause-uncovered : goal.returns-clause-uncovered
returns-clause-uncovered c = first_told (λ v. v.uncovered) uncovered_in (told_first _ _ c.visit_fields.ensures)

pub returns-clause-data : goal.returns-clause-data
returns-clause-data c = any_told (λ v. v.has_data_index) is_of_data (told_second _ _ c.visit_fields.ensures)
