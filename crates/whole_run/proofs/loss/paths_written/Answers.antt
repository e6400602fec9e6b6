use Rattle.std.proofs.Common.{refl}
use Rattle.whole_run.proofs.loss.paths_written.Goals as goal

pub returns : goal.returns
returns c = rw (
  c.in_ok-add_paths-9.ensures,
  c.in_ok-add_paths-8.ensures,
  c.in_ok-add_paths-7.ensures,
  c.in_ok-add_paths-6.ensures,
  c.in_ok-add_paths-5.ensures,
  c.in_ok-add_paths-4.ensures,
  c.in_ok-add_paths-3.ensures,
  c.in_ok-add_paths-2.ensures,
  c.in_ok-add_paths.ensures,
  c.new-paths.ensures.items,
  c.file.ensures,
  c.file-2.ensures,
  c.file-3.ensures,
  c.file-4.ensures,
  c.file-5.ensures,
  c.file-6.ensures,
  c.file-7.ensures,
  c.file-8.ensures,
  c.file-9.ensures,
) refl
