use Rattle.std.proofs.Common.{◌∙◌}
use Rattle.av_top.proofs.Lines.{put}
use Rattle.av_top.proofs.report.push_line.Goals as goal

pub returns : goal.returns
returns c =
    put _ _ _ _ _ _ _ _ _ _ _ c.args.number (c.as_bytes.ensures.value ∙ c.in_ok-number.ensures.ok) (c.as_bytes-2.ensures.value ∙ c.in_ok-number.ensures.ok)
    c.in_ok-push.ensures.items c.in_ok-extend_from_slice.ensures.items c.in_ok-extend_from_slice-2.ensures.items
    c.in_ok-extend_from_slice-3.ensures.items c.in_ok-extend_from_slice-4.ensures.items c.in_ok-extend_from_slice-5.ensures.items
    c.in_ok-extend_from_slice-6.ensures.items
