use Rattle.std.proofs.Common.{IfOk, sym, subst}
use Rattle.pks_terms.specs.Views.{problem_of, names_of}
use Rattle.pks_plan.specs.TreeViews.{tree_of}
use Rattle.pks_run_answer.specs.declared.plans.Product.{Product}
use Rattle.pks_run_answer.specs.Replies.{CanBeMadeOf, SaysMade}
use Rattle.pks_run_answer.proofs.plans.product_text.Goals as goal

pub returns-in-Plain : goal.returns-in-Plain
returns-in-Plain c = subst (λ (x : Product). IfOk c.print_tree.result (λ text. SaysMade (problem_of c.args.p.now) (names_of c.args.p.now) x text.items (tree_of c.args.t.now))) (sym c.in-Plain.is) c.print_tree.ensures

pub returns-in-Run : goal.returns-in-Run
returns-in-Run c = subst (λ (x : Product). IfOk c.run_text.result (λ text. SaysMade (problem_of c.args.p.now) (names_of c.args.p.now) x text.items (tree_of c.args.t.now))) (sym c.in-Run.is) c.run_text.ensures

pub returns-in-Recalled : goal.returns-in-Recalled
returns-in-Recalled c = subst (λ (x : Product). IfOk c.recalled_text.result (λ text. SaysMade (problem_of c.args.p.now) (names_of c.args.p.now) x text.items (tree_of c.args.t.now))) (sym c.in-Recalled.is) c.recalled_text.ensures

pub returns-in-Explained : goal.returns-in-Explained
returns-in-Explained c = subst (λ (x : Product). IfOk c.explained_text.result (λ text. SaysMade (problem_of c.args.p.now) (names_of c.args.p.now) x text.items (tree_of c.args.t.now))) (sym c.in-Explained.is) c.explained_text.ensures

pub returns-in-Shared : goal.returns-in-Shared
returns-in-Shared c = subst (λ (x : Product). IfOk c.nodes_text.result (λ text. SaysMade (problem_of c.args.p.now) (names_of c.args.p.now) x text.items (tree_of c.args.t.now))) (sym c.in-Shared.is) c.nodes_text.ensures

pub returns-in-BenchLine : goal.returns-in-BenchLine
returns-in-BenchLine c = subst (λ (x : Product). IfOk c.bench_line.result (λ text. SaysMade (problem_of c.args.p.now) (names_of c.args.p.now) x text.items (tree_of c.args.t.now))) (sym c.in-BenchLine.is) c.bench_line.ensures

pub bench_line-requires-clause-file : goal.bench_line-requires-clause-file
bench_line-requires-clause-file c = (subst (CanBeMadeOf (tree_of c.args.t.now)) c.in-BenchLine.is c.requires.can).0

pub bench_line-requires-clause-nodes : goal.bench_line-requires-clause-nodes
bench_line-requires-clause-nodes c = (subst (CanBeMadeOf (tree_of c.args.t.now)) c.in-BenchLine.is c.requires.can).1
