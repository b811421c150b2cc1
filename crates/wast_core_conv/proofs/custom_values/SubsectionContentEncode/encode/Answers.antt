use Rattle.wast_core_conv.proofs.CustomsSpelled.{all_ready}
use Rattle.wast_core_conv.proofs.custom_values.SubsectionContentEncode.encode.Goals as goal

pub encode-requires-in-Needed : goal.encode-requires-in-Needed
encode-requires-in-Needed g c = all_ready c.as_slice.result.now

pub encode-requires-in-ExportInfo : goal.encode-requires-in-ExportInfo
encode-requires-in-ExportInfo g c = all_ready c.as_slice-in-ExportInfo.result.now

pub encode-requires-in-ImportInfo : goal.encode-requires-in-ImportInfo
encode-requires-in-ImportInfo g c = all_ready c.as_slice-in-ImportInfo.result.now

pub encode-requires-in-RuntimePath : goal.encode-requires-in-RuntimePath
encode-requires-in-RuntimePath g c = all_ready c.as_slice-in-RuntimePath.result.now
