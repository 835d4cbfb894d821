use Rattle.std.proofs.Common.{refl}
use Rattle.av_values.proofs.Replacing.{replaced-end, replaced-top}
use Rattle.av_blocks.proofs.files.written_visibility.Goals as goal

pub returns-clause-ok : goal.returns-clause-ok
returns-clause-ok c = replaced-top _ _ _ _ _ _ _ _ c.in_ok-word.ensures.ok (replaced-end _ _ _ _ _ refl (rw (c.in_ok-push_entries.ensures.ok, c.in_ok-entries.ensures.ok, c.in_ok-entry.ensures.ok, c.new.ensures)))
