use Rattle.view_tests.proofs.trees.a_tree_is_made_of_rows_in_any_order.Given as goal

abbrev pub ghosts-told_of_two_counted : goal.ghosts-told_of_two_counted
ghosts-told_of_two_counted g a = record { name = a.blank.name; parts = a.blank.parts }
